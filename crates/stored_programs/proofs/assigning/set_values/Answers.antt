use Rattle.std.proofs.lemmas.Result.{err_from_is_err_and}
use Rattle.sql_tree.specs.StatementView.{view, view_assignments}
use Rattle.exec_state.specs.Stage.{scene_of}
use Rattle.stored_programs.specs.Bodies.{body_of}
use Rattle.stored_programs.proofs.Assigned.{values_end_so, values_refused}
use Rattle.stored_programs.proofs.assigning.set_values.Goals as goal

pub returns-in_err-check_statement_here-clause-gives : goal.returns-in_err-check_statement_here-clause-gives
returns-in_err-check_statement_here-clause-gives g c =
    let p = err_from_is_err_and c.from_residual.result c.from_residual.ensures.1 in
    rw (p.1, p.2) (values_refused c.args.around.now (body_of c.args.body.now) (view c.args.s.now) (view_assignments c.args.assignments.now) c.in_err-check_statement_here.field-0.0 (scene_of c.args.stage.now) c.in_err-check_statement_here.ensures)

pub returns-clause-gives : goal.returns-clause-gives
returns-clause-gives g c =
    values_end_so c.args.around.now c.with_statement-running.result (body_of c.args.body.now) (view c.args.s.now) (view_assignments c.args.assignments.now) c.in_ok-check_statement_here.field-0 c.assigned_values.result (scene_of c.args.stage.now) (scene_of c.assigned_values.new.stage)
    c.in_ok-check_statement_here.ensures c.with_statement-running.ensures c.assigned_values.ensures.gives
