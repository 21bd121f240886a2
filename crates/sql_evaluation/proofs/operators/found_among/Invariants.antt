use Rattle.std.proofs.Common.{◌≡◌, drop, Some, false}
use Rattle.sql_tree.specs.View.{view_trees}
use Rattle.exec_state.specs.Stage.{LeadsOn, scene_of}
use Rattle.sql_evaluation.specs.Seen.{found_in}
use Rattle.sql_evaluation.proofs.Branching.{found_left}
use Rattle.sql_evaluation.proofs.operators.found_among.Given as goal

abbrev pub invariant-loop-item : goal.invariant-loop-item
invariant-loop-item g l = record {
  gives : found_left l.around l.views l.x l.so_far (view_trees (drop l.item-index l.item-items)) (scene_of l.stage) ≡ found_in l.around l.views l.x (Some false) (view_trees l.items) (scene_of l.fn.stage);
  leads : LeadsOn l.fn.stage l.stage;
}
