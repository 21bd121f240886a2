use Rattle.std.proofs.Common.{◌≡◌, ◌++◌, map, length}
use Rattle.val_types.specs.Keys.{primary_key}
use Rattle.row_index.specs.row_sheets.Slots.{rows_in}
use Rattle.table_sheet.specs.Walks.{left, IsPlace}
use Rattle.table_sheet.proofs.walking.keys_from.Given as goal

-- the keys so far stand before those of the rows that are left
abbrev pub invariant-loop-row : goal.invariant-loop-row
invariant-loop-row l = record {
  place : IsPlace l.committed l.overlay l.at;
  so_far : l.keys ++ map (primary_key l.definition) (rows_in (left l.definition l.committed l.overlay l.at)) ≡ map (primary_key l.definition) (rows_in (left l.definition l.committed l.overlay l.fn.from));
}

abbrev pub decreases-loop-row : goal.decreases-loop-row
decreases-loop-row l = length (left l.definition l.committed l.overlay l.at)
