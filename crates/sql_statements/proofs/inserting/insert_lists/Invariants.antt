use Rattle.std.proofs.Common.{◌≡◌, [], drop}
use Rattle.sql_tree.specs.StatementView.{view_rows}
use Rattle.changed_rows.specs.sql_meaning.Changing.{nothing_inserted}
use Rattle.exec_state.specs.Stage.{LeadsOn, scene_of}
use Rattle.changed_rows.specs.Changed.{StandsAt, inserting_of, manner_of}
use Rattle.sql_statements.specs.Changed.{lists_in}
use Rattle.sql_statements.proofs.inserting.insert_lists.Given as goal

abbrev pub invariant-loop-list : goal.invariant-loop-list
invariant-loop-list g l = record {
  gives : lists_in l.table.around.now l.insertion.forced l.table.definition.now l.insertion.places.now (manner_of l.insertion.manner) (inserting_of l.so_far) (view_rows (drop l.list-index l.lists)) (scene_of l.stage) ≡ lists_in l.table.around.now l.insertion.forced l.table.definition.now l.insertion.places.now (manner_of l.insertion.manner) nothing_inserted (view_rows l.lists) (scene_of l.fn.stage);
  leads : LeadsOn l.fn.stage l.stage;
  stands : StandsAt l.table.at l.table.definition.now l.stage;
  none : l.views ≡ [];
}
