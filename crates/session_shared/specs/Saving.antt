-- What adding an item and going back to a savepoint make of a transaction.
use Rattle.std.specs.Prelude.{ℕ, Bool, true, false, List, [], ◌∷◌, ◌++◌, Option, Some, None}
use Rattle.session_model.specs.log_entries.declared.entries.Item.{Item}
use Rattle.session_model.specs.Sessions.{Open, Save}
use Rattle.session_model.specs.Commands.{cut_back}

-- a transaction with an item more, which has changed a row
abbrev pub one_more : Item → Open Item → Open Item
one_more item open' = record open' { items = open'.items ++ item ∷ []; changed = true }

-- as long as it has not too many bytes then
abbrev pub one_more_if : Bool → Item → Open Item → Open Item
one_more_if true item open' = one_more item open'
one_more_if false item open' = open'

-- how many changes a transaction had at a savepoint
abbrev pub changes_at : Option Save → Option ℕ
changes_at None = None
changes_at (Some save) = Some save.changes

-- a transaction as it stood at a savepoint, or as it is where there is none
abbrev pub went_back : List ℕ → Option Save → Open Item → Open Item
went_back name None open' = open'
went_back name (Some save) open' = cut_back name save open'

-- how many items and changes there were
abbrev pub marks_of : Option Save → Option (ℕ × ℕ)
marks_of None = None
marks_of (Some save) = Some (save.items, save.changes)
