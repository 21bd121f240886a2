use Rattle.std.proofs.Common.{◌≡◌, ◌≤◌, length}
use Rattle.row_index.specs.row_sheets.Slots.{rows_in}
use Rattle.table_sheet.specs.Walks.{left, IsPlace}
use Rattle.table_sheet.proofs.walking.next.Given as goal

-- only slots without rows were passed
abbrev pub invariant-loop-shown : goal.invariant-loop-shown
invariant-loop-shown l = record {
  place : IsPlace l.committed l.overlay l.at;
  rows : rows_in (left l.definition l.committed l.overlay l.at) ≡ rows_in (left l.definition l.committed l.overlay l.initial.at);
  fewer : length (left l.definition l.committed l.overlay l.at) ≤ length (left l.definition l.committed l.overlay l.initial.at);
}

abbrev pub decreases-loop-shown : goal.decreases-loop-shown
decreases-loop-shown l = length (left l.definition l.committed l.overlay l.at)
