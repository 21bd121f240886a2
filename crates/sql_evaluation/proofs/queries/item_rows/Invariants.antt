use Rattle.std.proofs.Common.{◌≡◌, drop}
use Rattle.sql_tree.specs.View.{view_trees}
use Rattle.exec_state.specs.Stage.{LeadsOn, scene_of}
use Rattle.sql_evaluation.specs.Seen.{items_in, Inside}
use Rattle.sql_evaluation.proofs.Scanning.{items_left}
use Rattle.sql_evaluation.proofs.queries.item_rows.Given as goal

abbrev pub invariant-loop-row : goal.invariant-loop-row
invariant-loop-row g l = record {
  gives : items_left l.around l.views l.definition (view_trees l.items) (drop l.row-index l.row-items) l.shown (scene_of l.stage) ≡ items_in l.around l.views l.definition (view_trees l.items) l.row-items (scene_of l.fn.stage);
  leads : LeadsOn l.fn.stage l.stage;
  inside : Inside l.definition l.views l.inner;
}
