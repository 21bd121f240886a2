use Rattle.std.proofs.Common.{◌+◌, ◌*◌}
use Rattle.stored_programs.proofs.calls.+nesting.Given as goal

abbrev pub decreases-call_function : goal.decreases-call_function
decreases-call_function l = l.around.now.nesting * 8

abbrev pub decreases-fire_trigger : goal.decreases-fire_trigger
decreases-fire_trigger l = l.around.now.nesting * 8

abbrev pub decreases-run_function-fire : goal.decreases-run_function-fire
decreases-run_function-fire l = l.around.now.nesting * 8 + 2

abbrev pub decreases-run_function-run : goal.decreases-run_function-run
decreases-run_function-run l = l.around.now.nesting * 8 + 2

abbrev pub decreases-run_trigger-fire : goal.decreases-run_trigger-fire
decreases-run_trigger-fire l = l.around.now.nesting * 8 + 2

abbrev pub decreases-run_trigger-run : goal.decreases-run_trigger-run
decreases-run_trigger-run l = l.around.now.nesting * 8 + 2

abbrev pub decreases-run_function : goal.decreases-run_function
decreases-run_function l = l.around.now.nesting * 8 + 6

abbrev pub decreases-run_trigger : goal.decreases-run_trigger
decreases-run_trigger l = l.around.now.nesting * 8 + 6
