use Rattle.std.proofs.Common.{◌≡◌, ◌≤◌, drop}
use Rattle.sql_tree.specs.StatementView.{view_sets}
use Rattle.exec_state.specs.Stage.{LeadsOn, scene_of}
use Rattle.changed_rows.specs.Changed.{StandsAt}
use Rattle.sql_statements.specs.Changed.{updates_in}
use Rattle.sql_statements.proofs.Changes.{updates_left}
use Rattle.sql_statements.proofs.updating.update_each.Given as goal

abbrev pub invariant-loop-row : goal.invariant-loop-row
invariant-loop-row g l = record {
  gives : updates_left l.table.around.now l.table.definition.now (view_sets l.sets) (drop l.row-index l.rows) l.count (scene_of l.stage) ≡ updates_in l.table.around.now l.table.definition.now (view_sets l.sets) l.rows (scene_of l.fn.stage);
  few : l.count ≤ l.row-index;
  leads : LeadsOn l.fn.stage l.stage;
  stands : StandsAt l.table.at l.table.definition.now l.stage;
}
