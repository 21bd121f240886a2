use Rattle.std.proofs.Common.{◌≡◌}
use Rattle.row_index.specs.row_sheets.Slots.{rows_in}
use Rattle.table_sheet.specs.Walks.{depth, passed, IsPlace}
use Rattle.table_sheet.proofs.ending.previous.Given as goal

-- only slots without rows were passed
abbrev pub invariant-loop-shown : goal.invariant-loop-shown
invariant-loop-shown l = record {
  place : IsPlace l.committed l.overlay l.at;
  rows : rows_in (passed l.definition l.committed l.overlay l.at) ≡ rows_in (passed l.definition l.committed l.overlay l.initial.at);
}

abbrev pub decreases-loop-shown : goal.decreases-loop-shown
decreases-loop-shown l = depth l.committed l.overlay l.at
