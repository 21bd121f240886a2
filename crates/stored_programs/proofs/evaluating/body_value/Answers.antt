use Rattle.std.proofs.lemmas.Result.{err_from_is_err_and}
use Rattle.sql_tree.specs.View.{view_tree}
use Rattle.exec_state.specs.Stage.{scene_of}
use Rattle.stored_programs.specs.Bodies.{body_of}
use Rattle.stored_programs.proofs.Evaluated.{evaluated_so, evaluation_refused}
use Rattle.stored_programs.proofs.evaluating.body_value.Goals as goal

pub returns-in_err-check_here-clause-gives : goal.returns-in_err-check_here-clause-gives
returns-in_err-check_here-clause-gives g c =
    let p = err_from_is_err_and c.from_residual.result c.from_residual.ensures.1 in
    rw (p.1, p.2) (evaluation_refused c.args.around.now (body_of c.args.body.now) (view_tree c.args.e.now) c.in_err-check_here.field-0.0 (scene_of c.args.stage.now) c.in_err-check_here.ensures)

pub returns-clause-gives : goal.returns-clause-gives
returns-clause-gives g c =
    evaluated_so c.args.around.now c.with_expression-running.result (body_of c.args.body.now) (view_tree c.args.e.now) c.in_ok-check_here.field-0 c.value_here.result (scene_of c.args.stage.now) (scene_of c.value_here.new.stage)
    c.in_ok-check_here.ensures c.with_expression-running.ensures c.value_here.ensures.gives
