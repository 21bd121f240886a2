use Rattle.std.proofs.lemmas.Result.{err_from_is_err_and}
use Rattle.sql_tree.specs.StatementView.{view, view_assignments}
use Rattle.exec_state.specs.Stage.{scene_of}
use Rattle.stored_programs.proofs.Assigned.{set_not_assigned}
use Rattle.stored_programs.proofs.assigning.set_step.Goals as goal

pub returns-in_err-assign_all-clause-gives : goal.returns-in_err-assign_all-clause-gives
returns-in_err-assign_all-clause-gives g c =
    let p = err_from_is_err_and c.from_residual-in_err-assign_all.result c.from_residual-in_err-assign_all.ensures.1 in
    rw (p.1, p.2) (set_not_assigned c.args.around.now c.args.body.now c.assign_all.new.body (view c.args.s.now) (view_assignments c.args.assignments.now) c.in_ok-values.values c.in_err-assign_all.field-0.0 (scene_of c.args.stage.now) (scene_of c.set_values.new.stage)
    c.requires.set c.in_ok-values.ensures.gives c.in_err-assign_all.ensures)
