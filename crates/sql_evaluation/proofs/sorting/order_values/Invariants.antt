use Rattle.std.proofs.Common.{◌≡◌, drop}
use Rattle.sql_tree.specs.View.{view_orders}
use Rattle.exec_state.specs.Stage.{LeadsOn, scene_of}
use Rattle.sql_evaluation.specs.Seen.{order_in}
use Rattle.sql_evaluation.proofs.Scanning.{order_left}
use Rattle.sql_evaluation.proofs.sorting.order_values.Given as goal

abbrev pub invariant-loop-item : goal.invariant-loop-item
invariant-loop-item g l = record {
  gives : order_left l.around l.views (view_orders (drop l.item-index l.item-items)) l.by (scene_of l.stage) ≡ order_in l.around l.views (view_orders l.order) (scene_of l.fn.stage);
  leads : LeadsOn l.fn.stage l.stage;
}
