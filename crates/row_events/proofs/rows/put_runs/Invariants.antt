use Rattle.std.proofs.Common.{length}
use Rattle.log_model.specs.Items.{CanCarryAll}
use Rattle.row_events.specs.Runs.{rows_events}
use Rattle.row_events.specs.Writing.{GoesOn}
use Rattle.row_events.proofs.rows.put_runs.Given as goal

abbrev pub invariant-loop-left : goal.invariant-loop-left
invariant-loop-left l = record {
  rows : CanCarryAll l.defs l.left;
  goes : GoesOn (rows_events l.defs l.names l.fn.changes l.fn.h.stamp) (rows_events l.defs l.names l.left l.fn.h.stamp) l.fn.h l.here l.fn.out l.out;
}

abbrev pub decreases-loop-left : goal.decreases-loop-left
decreases-loop-left l = length l.left
