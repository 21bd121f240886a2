use Rattle.std.proofs.Common.{◌+◌, ◌*◌, drop}
use Rattle.sql_tree.specs.Statement.{while_steps}
use Rattle.sql_tree.specs.StatementView.{view, view_branches, view_otherwise, view_statements}
use Rattle.sql_tree.specs.View.{view_tree}
use Rattle.proc_parts.specs.sql_meaning.Within.{do_one}
use Rattle.proc_parts.specs.Calls.{Moves, held_of}
use Rattle.proc_parts.specs.Parts.{step_at}
use Rattle.proc_run.specs.Steps.{branches_at, steps_at}
use Rattle.proc_parts.proofs.Behind.{Onto}
use Rattle.proc_run.proofs.Stepping.{TurnsTo}
use Rattle.proc_run.proofs.steps.+step.Given as goal

abbrev pub invariant-steps-loop-s : goal.invariant-steps-loop-s
invariant-steps-loop-s g l = record {
  gives : Onto g.R.Ruled.rules g.R.Runner.faults (steps_at l.world l.locals (view_statements (drop l.s-index l.s-items)) (held_of l.held)) l.r (steps_at l.world l.fn.locals (view_statements l.list) (held_of l.fn.held)) l.fn.r;
  moves : Moves (g.R.Runner.faults l.fn.r) (g.R.Runner.faults l.r) l.fn.held.turns l.held.turns;
}

abbrev pub invariant-if_step-loop-arm : goal.invariant-if_step-loop-arm
invariant-if_step-loop-arm g l = record {
  gives : Onto g.R.Ruled.rules g.R.Runner.faults (branches_at l.world l.locals (view_branches (drop l.arm-index l.arm-items)) (view_otherwise l.otherwise) (held_of l.held)) l.r (step_at l.world l.fn.locals (view l.s) (held_of l.fn.held)) l.fn.r;
  moves : Moves (g.R.Runner.faults l.fn.r) (g.R.Runner.faults l.r) l.fn.held.turns l.held.turns;
}

abbrev pub invariant-while_step-loop-held : goal.invariant-while_step-loop-held
invariant-while_step-loop-held g l = record {
  gives : TurnsTo g.R.Ruled.rules g.R.Runner.faults l.world (do_one (view_tree l.condition)) (view_statements l.list) l.locals (held_of l.held) l.r (step_at l.world l.fn.locals (while_steps (view_tree l.condition) (view_statements l.list)) (held_of l.fn.held)) l.fn.r;
  moves : Moves (g.R.Runner.faults l.fn.r) (g.R.Runner.faults l.r) l.fn.held.turns l.held.turns;
}

abbrev pub decreases-while_step-loop-held : goal.decreases-while_step-loop-held
decreases-while_step-loop-held g l = l.held.turns

abbrev pub decreases-step : goal.decreases-step
decreases-step g l = 10 * goal.size-step g l + 7

abbrev pub decreases-steps : goal.decreases-steps
decreases-steps g l = 10 * goal.size-steps g l + 8

abbrev pub decreases-else_step : goal.decreases-else_step
decreases-else_step g l = 10 * goal.size-else_step g l + 9

abbrev pub decreases-block_step : goal.decreases-block_step
decreases-block_step g l = 10 * goal.size-block_step g l + 9

abbrev pub decreases-while_step : goal.decreases-while_step
decreases-while_step g l = 10 * goal.size-while_step g l + 9

abbrev pub decreases-if_step : goal.decreases-if_step
decreases-if_step g l = 10 * goal.size-if_step g l + 6
