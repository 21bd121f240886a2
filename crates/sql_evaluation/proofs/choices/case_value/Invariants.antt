use Rattle.std.proofs.Common.{◌≡◌, drop}
use Rattle.sql_tree.specs.Tree.{choice}
use Rattle.sql_tree.specs.View.{view_arms, view_part}
use Rattle.exec_state.specs.Stage.{LeadsOn, scene_of}
use Rattle.sql_evaluation.specs.Seen.{value_in}
use Rattle.sql_evaluation.proofs.Branching.{arms_left}
use Rattle.sql_evaluation.proofs.choices.case_value.Given as goal

abbrev pub invariant-loop-arm : goal.invariant-loop-arm
invariant-loop-arm g l = record {
  gives : arms_left l.around l.views (view_arms (drop l.arm-index l.arm-items)) (view_part l.otherwise) (scene_of l.stage) ≡ value_in l.around l.views (choice (view_arms l.arms) (view_part l.otherwise)) (scene_of l.fn.stage);
  leads : LeadsOn l.fn.stage l.stage;
}
