use Rattle.std.proofs.Common.{◌≡◌, length, drop}
use Rattle.exec_state.specs.Stage.{LeadsOn, scene_of}
use Rattle.changed_rows.specs.Changed.{StandsAt}
use Rattle.sql_statements.specs.Changed.{deletes_in}
use Rattle.sql_statements.proofs.Changes.{deletes_left}
use Rattle.sql_statements.proofs.deleting.delete_each.Given as goal

abbrev pub invariant-loop-row : goal.invariant-loop-row
invariant-loop-row g l = record {
  gives : deletes_left l.table.around.now l.table.definition.now (drop l.row-index l.rows) (length l.rows) (scene_of l.stage) ≡ deletes_in l.table.around.now l.table.definition.now l.rows (scene_of l.fn.stage);
  leads : LeadsOn l.fn.stage l.stage;
  stands : StandsAt l.table.at l.table.definition.now l.stage;
}
