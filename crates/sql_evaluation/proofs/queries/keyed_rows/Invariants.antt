use Rattle.std.proofs.Common.{◌≡◌, drop}
use Rattle.sql_tree.specs.View.{view_orders}
use Rattle.exec_state.specs.Stage.{LeadsOn, scene_of}
use Rattle.sql_evaluation.specs.Seen.{keyed_in, Inside}
use Rattle.sql_evaluation.proofs.Scanning.{keyed_left}
use Rattle.sql_evaluation.proofs.queries.keyed_rows.Given as goal

abbrev pub invariant-loop-row : goal.invariant-loop-row
invariant-loop-row g l = record {
  gives : keyed_left l.around l.views l.definition (view_orders l.order) (drop l.row-index l.row-items) l.keyed (scene_of l.stage) ≡ keyed_in l.around l.views l.definition (view_orders l.order) l.row-items (scene_of l.fn.stage);
  leads : LeadsOn l.fn.stage l.stage;
  inside : Inside l.definition l.views l.inner;
}
