use Rattle.std.proofs.Common.{◌≡◌, drop}
use Rattle.sql_tree.specs.View.{view_tree}
use Rattle.exec_state.specs.Stage.{LeadsOn, scene_of}
use Rattle.sql_evaluation.specs.Seen.{kept_in, Inside}
use Rattle.sql_evaluation.proofs.Scanning.{kept_left}
use Rattle.sql_evaluation.proofs.queries.kept_rows.Given as goal

abbrev pub invariant-loop-row : goal.invariant-loop-row
invariant-loop-row g l = record {
  gives : kept_left l.around l.views l.definition (view_tree l.filter) (drop l.row-index l.row-items) l.kept (scene_of l.stage) ≡ kept_in l.around l.views l.definition (view_tree l.filter) l.row-items (scene_of l.fn.stage);
  leads : LeadsOn l.fn.stage l.stage;
  inside : Inside l.definition l.views l.inner;
}
