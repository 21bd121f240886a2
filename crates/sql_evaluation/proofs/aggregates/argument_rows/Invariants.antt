use Rattle.std.proofs.Common.{◌≡◌, drop}
use Rattle.sql_tree.specs.View.{view_aggregates}
use Rattle.exec_state.specs.Stage.{LeadsOn, scene_of}
use Rattle.sql_evaluation.specs.Seen.{argument_rows_in, Inside}
use Rattle.sql_evaluation.proofs.Forming.{argued_left}
use Rattle.sql_evaluation.proofs.aggregates.argument_rows.Given as goal

abbrev pub invariant-loop-row : goal.invariant-loop-row
invariant-loop-row g l = record {
  gives : argued_left l.around l.views l.definition (view_aggregates l.aggregates) (drop l.row-index l.row-items) l.arguments (scene_of l.stage) ≡ argument_rows_in l.around l.views l.definition (view_aggregates l.aggregates) l.row-items (scene_of l.fn.stage);
  leads : LeadsOn l.fn.stage l.stage;
  inside : Inside l.definition l.views l.inner;
}
