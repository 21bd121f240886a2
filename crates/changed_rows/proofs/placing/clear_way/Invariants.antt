use Rattle.std.proofs.Common.{◌≡◌, ◌≤◌, drop}
use Rattle.table_rules.specs.Stored.{key_tests}
use Rattle.sql_evaluation.specs.sql_meaning.Changing.{clear_way}
use Rattle.sql_evaluation.specs.exec_state.Stage.{LeadsOn, scene_of}
use Rattle.sql_evaluation.specs.Seen.{world_of}
use Rattle.changed_rows.proofs.Inserts.{cleared_left}
use Rattle.changed_rows.proofs.placing.clear_way.Given as goal

abbrev pub invariant-loop-which : goal.invariant-loop-which
invariant-loop-which g l = record {
  gives : cleared_left l.table.around.now l.table.definition.now (drop l.which (key_tests l.table.definition.now l.row)) l.deleted (scene_of l.stage) ≡ clear_way (world_of l.table.around.now) l.table.definition.now (key_tests l.table.definition.now l.row) (scene_of l.fn.stage);
  few : l.deleted ≤ l.which;
  leads : LeadsOn l.fn.stage l.stage;
}
