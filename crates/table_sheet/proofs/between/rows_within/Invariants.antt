use Rattle.std.proofs.Common.{◌≡◌, ◌++◌, length}
use Rattle.std.specs.Prelude.{filter}
use Rattle.row_index.specs.row_sheets.Slots.{rows_in}
use Rattle.value_ranges.specs.Keys.{row_is_in}
use Rattle.value_ranges.specs.Ranges.{range_of}
use Rattle.table_sheet.specs.Walks.{left, IsPlace}
use Rattle.table_sheet.proofs.between.rows_within.Given as goal

-- the rows so far stand before those in the range that are left
abbrev pub invariant-loop-shown : goal.invariant-loop-shown
invariant-loop-shown l = record {
  place : IsPlace l.committed l.overlay l.at;
  so_far :
      l.rows ++ filter (row_is_in l.definition (range_of l.range)) (rows_in (left l.definition l.committed l.overlay l.at))
      ≡ filter (row_is_in l.definition (range_of l.range)) (rows_in (left l.definition l.committed l.overlay l.fn.from));
}

abbrev pub decreases-loop-shown : goal.decreases-loop-shown
decreases-loop-shown l = length (left l.definition l.committed l.overlay l.at)
