use Rattle.std.proofs.Common.{◌≡◌, length, map}
use Rattle.log_model.specs.Items.{kind_of}
use Rattle.row_events.specs.Runs.{run_from}
use Rattle.row_events.proofs.runs.run_from.Given as goal

abbrev pub invariant-loop-rest : goal.invariant-loop-rest
invariant-loop-rest l = run_from (map kind_of l.columns) l.first l.size l.rest ≡ run_from (map kind_of l.columns) l.first l.begun l.all

abbrev pub decreases-loop-rest : goal.decreases-loop-rest
decreases-loop-rest l = length l.rest
