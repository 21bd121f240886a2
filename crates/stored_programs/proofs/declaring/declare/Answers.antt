use Rattle.std.proofs.lemmas.Result.{err_from_is_err_and}
use Rattle.sql_tree.specs.StatementView.{view_declaration}
use Rattle.exec_state.specs.Stage.{scene_of}
use Rattle.stored_programs.proofs.Declared.{declare_ends, declare_not_preset}
use Rattle.stored_programs.proofs.declaring.declare.Goals as goal

pub returns-in_err-value-clause-gives : goal.returns-in_err-value-clause-gives
returns-in_err-value-clause-gives g c =
    let p = err_from_is_err_and c.from_residual.result c.from_residual.ensures.1 in
    rw (p.1, p.2) (declare_not_preset c.args.around.now c.args.body.now c.args.body.now (view_declaration c.args.declaration.now) c.in_err-value.field-0.0 (scene_of c.args.stage.now) (scene_of c.preset_value.new.stage) c.in_err-value.ensures.gives)

pub returns-clause-gives : goal.returns-clause-gives
returns-clause-gives g c =
    declare_ends c.args.around.now c.args.body.now c.declare_names.new.body (view_declaration c.args.declaration.now) c.in_ok-value.value c.declare_names.result (scene_of c.args.stage.now) (scene_of c.preset_value.new.stage)
    c.in_ok-value.ensures.gives c.declare_names.ensures
