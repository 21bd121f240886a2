use Rattle.std.proofs.Common.{◌+◌, ◌*◌}
use Rattle.proc_run.proofs.nesting.+nesting.Given as goal

abbrev pub decreases-call_procedure : goal.decreases-call_procedure
decreases-call_procedure g l = l.world.now.nesting * 8

abbrev pub decreases-run_procedure-call : goal.decreases-run_procedure-call
decreases-run_procedure-call g l = l.world.now.nesting * 8 + 2

abbrev pub decreases-run_procedure : goal.decreases-run_procedure
decreases-run_procedure g l = l.world.now.nesting * 8 + 4
