-- The tables of changes, in the order of their first changes, as a walk over the changes finds them.
use Rattle.std.specs.Prelude.{ℕ, Bool, true, false, not, if◌then◌else◌, List, [], ◌∷◌, filter, Option, Some, None}
use denote.Ref.{Bor}
use Rattle.val_types.specs.declared.definitions.ColumnDef.{ColumnDef}
use Rattle.log_model.specs.Items.{same_name, distinct}

-- whether a name stands among names
abbrev pub has : List (List ℕ) → (name : List ℕ) → Bool
has [] name = false
has (m ∷ ms) name = if same_name m name then true else has ms name

-- the distinct ones of names that stand behind others, without those
abbrev pub new_among : (before names : List (List ℕ)) → List (List ℕ)
new_among before names = filter (λ m. not (has before m)) (distinct names)

-- the columns that were found, none where there is no table
abbrev pub columns_seen : Option (Bor (List ColumnDef)) → List ColumnDef
columns_seen None = []
columns_seen (Some columns) = columns.now
