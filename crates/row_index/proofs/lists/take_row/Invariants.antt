use Rattle.std.proofs.Common.{◌≡◌, ◌<◌, ◌≤◌, ℕ, Some}
use Rattle.std.specs.Prelude.{slice_get}
use Rattle.val_types.specs.declared.definitions.KeyDef.{KeyDef}
use Rattle.row_index.specs.Numbers.{IsTaken}
use Rattle.row_index.specs.Lists.{list_at}
use Rattle.row_index.proofs.lists.take_row.Given as goal

-- the number is taken out of the lists so far, and the others are as they were
abbrev pub invariant-loop-which : goal.invariant-loop-which
invariant-loop-which g l = record {
  so_far : (w : ℕ) (key : KeyDef) → slice_get l.definition.uniques w ≡ Some key → w < l.which → IsTaken key (g.R.RowsByNumber.row_of l.rows) l.row (list_at l.initial.lists.items w) (list_at l.lists.items w);
  left : (w : ℕ) → l.which ≤ w → list_at l.lists.items w ≡ list_at l.initial.lists.items w;
}
