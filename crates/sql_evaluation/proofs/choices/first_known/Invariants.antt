use Rattle.std.proofs.Common.{◌≡◌, drop}
use Rattle.val_types.specs.declared.ops.FuncN.{FuncN}
use Rattle.sql_tree.specs.BuiltIns.{on_many}
use Rattle.sql_tree.specs.View.{view_trees}
use Rattle.exec_state.specs.Stage.{LeadsOn, scene_of}
use Rattle.sql_evaluation.specs.Seen.{value_in}
use Rattle.sql_evaluation.proofs.Branching.{known_left}
use Rattle.sql_evaluation.proofs.choices.first_known.Given as goal

abbrev pub invariant-loop-e : goal.invariant-loop-e
invariant-loop-e g l = record {
  gives : known_left l.around l.views (view_trees (drop l.e-index l.e-items)) (scene_of l.stage) ≡ value_in l.around l.views (on_many FuncN.Coalesce (view_trees l.exprs)) (scene_of l.fn.stage);
  leads : LeadsOn l.fn.stage l.stage;
}
