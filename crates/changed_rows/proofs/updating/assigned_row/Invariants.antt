use Rattle.std.proofs.Common.{◌≡◌, [], drop}
use Rattle.sql_tree.specs.StatementView.{view_sets}
use Rattle.sql_evaluation.specs.exec_state.Stage.{LeadsOn, scene_of}
use Rattle.sql_evaluation.specs.Seen.{Inside}
use Rattle.changed_rows.specs.Changed.{assigned_in}
use Rattle.changed_rows.proofs.Updates.{assigned_left}
use Rattle.changed_rows.proofs.updating.assigned_row.Given as goal

abbrev pub invariant-loop-set : goal.invariant-loop-set
invariant-loop-set g l = record {
  gives : assigned_left l.table.around.now l.table.definition.now (view_sets (drop l.set-index l.set-items)) l.row (scene_of l.stage) ≡ assigned_in l.table.around.now l.table.definition.now (view_sets l.sets) l.old (scene_of l.fn.stage);
  leads : LeadsOn l.fn.stage l.stage;
  inside : Inside l.table.definition.now [] l.inner;
}
