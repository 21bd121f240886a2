use Rattle.std.proofs.Common.{◌≡◌, ◌+◌, ◌-◌, ◌^◌, ◌≤◌, [], length}
use Rattle.log_model.specs.Written.{total}
use Rattle.row_events.specs.Runs.{rows_events}
use Rattle.row_events.specs.Sizes.{bounded}
use Rattle.row_events.proofs.event_sizes.runs_size.Given as goal

abbrev pub invariant-loop-left : goal.invariant-loop-left
invariant-loop-left l = record {
  same : bounded (l.size + total (rows_events l.defs [] l.left 0)) ≡ bounded (total (rows_events l.defs [] l.fn.changes 0));
  fits : l.size ≤ 2 ^ 64 - 1;
}

abbrev pub decreases-loop-left : goal.decreases-loop-left
decreases-loop-left l = length l.left
