use Rattle.std.proofs.lemmas.Result.{err_from_is_err_and}
use Rattle.sql_tree.specs.StatementView.{view}
use Rattle.exec_state.specs.Stage.{scene_of}
use Rattle.sql_statements.specs.Did.{did_of}
use Rattle.stored_programs.specs.Bodies.{body_of}
use Rattle.stored_programs.proofs.Performed.{performed_not, performed_so}
use Rattle.stored_programs.proofs.performing.perform_step.Goals as goal

pub returns-in_err-perform_here-clause-gives : goal.returns-in_err-perform_here-clause-gives
returns-in_err-perform_here-clause-gives g c =
    let p = err_from_is_err_and c.from_residual-in_err-perform_here.result c.from_residual-in_err-perform_here.ensures.1 in
    rw (p.1, p.2) (performed_not c.args.around.now c.with_statement-running.result (body_of c.args.body.now) (view c.args.s.now) c.in_ok-check_statement_here.field-0 c.in_err-perform_here.field-0.0 (scene_of c.args.stage.now) (scene_of c.perform_here.new.stage)
    c.in_ok-check_statement_here.ensures c.with_statement-running.ensures c.in_err-perform_here.ensures.gives)

pub returns-clause-gives : goal.returns-clause-gives
returns-clause-gives g c =
    performed_so c.args.around.now c.with_statement-running.result (body_of c.args.body.now) (view c.args.s.now) c.in_ok-check_statement_here.field-0 (did_of c.in_ok-perform_here.field-0) (scene_of c.args.stage.now) (scene_of c.perform_here.new.stage)
    c.in_ok-check_statement_here.ensures c.with_statement-running.ensures c.in_ok-perform_here.ensures.gives
