use Rattle.std.proofs.Common.{◌≡◌, ◌+◌, ◌*◌, drop}
use Rattle.sql_tree.specs.Statement.{while_steps}
use Rattle.sql_tree.specs.StatementView.{view_branches, view_statements}
use Rattle.sql_tree.specs.View.{view_tree}
use Rattle.exec_state.specs.Stage.{LeadsOn, scene_of}
use Rattle.stored_programs.specs.Bodies.{body_of}
use Rattle.stored_programs.specs.Steps.{step_in, steps_in, taken_in}
use Rattle.stored_programs.proofs.Stepping.{TurnsTo, steps_left, taken_left}
use Rattle.stored_programs.proofs.steps.+step.Given as goal

-- no step returned so far, and what is left does what all do
abbrev pub invariant-steps-loop-s : goal.invariant-steps-loop-s
invariant-steps-loop-s g l = record {
  gives : steps_left l.around (body_of l.body) (drop l.s-index l.s-items) (scene_of l.stage) ≡ steps_in l.around (body_of l.fn.body) (view_statements l.list) (scene_of l.fn.stage);
  leads : LeadsOn l.fn.stage l.stage;
}

-- no condition held so far
abbrev pub invariant-taken_branch-loop-arm : goal.invariant-taken_branch-loop-arm
invariant-taken_branch-loop-arm g l = record {
  gives : taken_left l.around (body_of l.body) (drop l.arm-index l.arm-items) (scene_of l.stage) ≡ taken_in l.around (body_of l.fn.body) (view_branches l.arms) (scene_of l.fn.stage);
  leads : LeadsOn l.fn.stage l.stage;
}

-- the turns to come do from here what all do from the start
abbrev pub invariant-while_step-loop-stage : goal.invariant-while_step-loop-stage
invariant-while_step-loop-stage g l = record {
  turns : TurnsTo l.around (view_tree l.condition) (view_statements l.list) (body_of l.body) l.stage (step_in l.around (body_of l.fn.body) (while_steps (view_tree l.condition) (view_statements l.list)) (scene_of l.fn.stage));
  leads : LeadsOn l.fn.stage l.stage;
}

abbrev pub decreases-while_step-loop-stage : goal.decreases-while_step-loop-stage
decreases-while_step-loop-stage g l = l.stage.turns

abbrev pub decreases-step : goal.decreases-step
decreases-step g l = 10 * goal.size-step g l

abbrev pub decreases-steps : goal.decreases-steps
decreases-steps g l = 10 * goal.size-steps g l + 3

abbrev pub decreases-otherwise_step : goal.decreases-otherwise_step
decreases-otherwise_step g l = 10 * goal.size-otherwise_step g l + 4

abbrev pub decreases-block_step : goal.decreases-block_step
decreases-block_step g l = 10 * goal.size-block_step g l + 4

abbrev pub decreases-while_step : goal.decreases-while_step
decreases-while_step g l = 10 * goal.size-while_step g l + 4

abbrev pub decreases-taken_branch : goal.decreases-taken_branch
decreases-taken_branch g l = 10 * goal.size-taken_branch g l + 4
