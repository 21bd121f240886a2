use Rattle.std.proofs.Common.{◌≡◌, drop}
use Rattle.sql_tree.specs.View.{view_trees}
use Rattle.exec_state.specs.Stage.{LeadsOn, scene_of}
use Rattle.sql_evaluation.specs.Seen.{values_in, world_of, frame_of}
use Rattle.sql_evaluation.proofs.Loops.{values_behind}
use Rattle.sql_evaluation.proofs.value_lists.values.Given as goal

abbrev pub invariant-loop-e : goal.invariant-loop-e
invariant-loop-e g l = record {
  gives : values_behind (world_of l.around) (frame_of l.around l.views) (view_trees (drop l.e-index l.e-items)) l.out (scene_of l.stage) ≡ values_in l.around l.views (view_trees l.exprs) (scene_of l.fn.stage);
  leads : LeadsOn l.fn.stage l.stage;
}
