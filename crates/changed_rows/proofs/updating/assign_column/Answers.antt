use Rattle.std.proofs.lemmas.Result.{err_from_is_err_and}
use Rattle.sql_evaluation.specs.exec_state.Stage.{scene_of}
use Rattle.changed_rows.proofs.Updates.{assign_no_value, assign_ends}
use Rattle.changed_rows.proofs.updating.assign_column.Goals as goal

pub returns-in_err-value-clause-gives : goal.returns-in_err-value-clause-gives
returns-in_err-value-clause-gives g c =
    let p = err_from_is_err_and c.from_residual.result c.from_residual.ensures.1 in
    rw (p.1, p.2) (assign_no_value c.args.table.now.around.now c.args.table.now.definition.now c.args.row.now c.args.views.now c.args.set.now c.in_err-value.field-0.0 (scene_of c.args.stage.now) (scene_of c.value.new.stage) c.requires.shown
    c.in_err-value.ensures.gives)

pub returns-clause-gives : goal.returns-clause-gives
returns-clause-gives g c =
    assign_ends c.args.table.now.around.now c.args.table.now.definition.now c.args.row.now c.args.views.now c.args.set.now c.in_ok-value.value c.put_named.result (scene_of c.args.stage.now) (scene_of c.value.new.stage) c.requires.shown
    c.in_ok-value.ensures.gives c.put_named.ensures
