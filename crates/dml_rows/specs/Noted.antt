-- What storing a row notes for taking back.
use Rattle.std.specs.Prelude.{◌≡◌, ℕ, true, List, [], ◌∷◌, ◌++◌, drop, Result, Ok, Err}
use Rattle.val_types.specs.declared.change.Change.{Change}
use Rattle.table_rules.specs.Stored.{Obstacle}
use Rattle.table_rules.specs.Stores.{Store, can_take_back}
use Rattle.row_store.specs.declared.refusal.RowRefusal.{RowRefusal}

-- the changes that storing a row makes: one, or none where something is in the way
abbrev pub changes_of : Result Change Obstacle → List Change
changes_of (Ok change) = change ∷ []
changes_of (Err obstacle) = []

-- on Ok the change stands behind those that were noted; a refusal notes nothing
abbrev pub Notes : Result (Unit {0}) RowRefusal → Result Change Obstacle → List Change → List Change → Type 0
Notes (Ok done) step old new = new ≡ old ++ changes_of step
Notes (Err refusal) step old new = new ≡ old

-- whatever the mark, what could be taken back can be taken back still
abbrev pub StaysReversible : Store → List Change → Store → List Change → Type 0
StaysReversible old noted new now = (mark : ℕ) → can_take_back old (drop mark noted) ≡ true → can_take_back new (drop mark now) ≡ true
