use Rattle.std.proofs.Common.{◌≡◌, drop}
use Rattle.sql_tree.specs.View.{view_aggregates}
use Rattle.exec_state.specs.Stage.{LeadsOn, scene_of}
use Rattle.sql_evaluation.specs.Seen.{arguments_in}
use Rattle.sql_evaluation.proofs.Forming.{arguments_left}
use Rattle.sql_evaluation.proofs.aggregates.argument_values.Given as goal

abbrev pub invariant-loop-aggregate : goal.invariant-loop-aggregate
invariant-loop-aggregate g l = record {
  gives : arguments_left l.around l.views (view_aggregates (drop l.aggregate-index l.aggregate-items)) l.arguments (scene_of l.stage) ≡ arguments_in l.around l.views (view_aggregates l.aggregates) (scene_of l.fn.stage);
  leads : LeadsOn l.fn.stage l.stage;
}
