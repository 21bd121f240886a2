use Rattle.std.proofs.Common.{◌≡◌, drop}
use Rattle.changed_rows.specs.sql_meaning.Changing.{nothing_inserted}
use Rattle.exec_state.specs.Stage.{LeadsOn, scene_of}
use Rattle.changed_rows.specs.Changed.{StandsAt, inserting_of, manner_of}
use Rattle.sql_statements.specs.Changed.{rows_in}
use Rattle.sql_statements.proofs.inserting.insert_rows.Given as goal

abbrev pub invariant-loop-row : goal.invariant-loop-row
invariant-loop-row g l = record {
  gives : rows_in l.table.around.now l.insertion.forced l.table.definition.now l.insertion.places.now (manner_of l.insertion.manner) (inserting_of l.so_far) (drop l.row-index l.rows) (scene_of l.stage) ≡ rows_in l.table.around.now l.insertion.forced l.table.definition.now l.insertion.places.now (manner_of l.insertion.manner) nothing_inserted l.rows (scene_of l.fn.stage);
  leads : LeadsOn l.fn.stage l.stage;
  stands : StandsAt l.table.at l.table.definition.now l.stage;
}
