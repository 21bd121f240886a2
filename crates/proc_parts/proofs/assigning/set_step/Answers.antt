use Rattle.std.proofs.Common.{◌≡◌, Some, None, ap, ◌∙◌}
use Rattle.std.proofs.lemmas.Result.{err_from_is_err_and}
use Rattle.sql_tree.specs.StatementView.{view, view_assignments}
use Rattle.name_const.specs.catalog_rules.Names.{first_made}
use Rattle.name_const.specs.proc_model.Procedures.{assignment_refusal, assignments_of}
use Rattle.proc_parts.specs.Calls.{always, held_of}
use Rattle.proc_parts.proofs.Assigned.{set_done, set_refused, set_unvalued}
use Rattle.proc_parts.proofs.assigning.set_step.Goals as goal

pub returns-in_err-values-clause-gives : goal.returns-in_err-values-clause-gives
returns-in_err-values-clause-gives g c =
    let p = err_from_is_err_and c.from_residual-in_err-values.result c.from_residual-in_err-values.ensures.1 in
    rw (p.1, p.2) (set_unvalued g.R.Ruled.rules g.R.Runner.faults c.args.world.now c.args.locals.now (view_assignments c.args.assignments.now) (always c.args.locals.now) (view c.get.result.now) c.in_err-values.field-0.0 (held_of c.args.held.now) (held_of c.checked_values.new.held) c.args.r.now c.checked_values.new.r
    (ap view c.get.ensures ∙ c.in_ok-question.ensures) c.in_err-values.ensures.gives)

pub returns-in-Some-clause-gives : goal.returns-in-Some-clause-gives
returns-in-Some-clause-gives g c =
    let found : Some c.in-Some.code ≡ first_made (assignment_refusal c.args.locals.now) (assignments_of (view_assignments c.as_slice.result.now) c.as_slice-2.result.now) = c.in-Some.ensures in
    let same : first_made (assignment_refusal c.args.locals.now) (assignments_of (view_assignments c.as_slice.result.now) c.as_slice-2.result.now)
    ≡ first_made (assignment_refusal c.args.locals.now) (assignments_of (view_assignments c.args.assignments.now) c.in_ok-values.values)
    = λ i. first_made (assignment_refusal c.args.locals.now) (assignments_of (view_assignments (c.as_slice.ensures i)) (c.as_slice-2.ensures i)) in
    set_refused g.R.Ruled.rules g.R.Runner.faults c.args.world.now c.args.locals.now (view_assignments c.args.assignments.now) (always c.args.locals.now) (view c.get.result.now) c.in_ok-values.values c.in-Some.code (held_of c.args.held.now) (held_of c.checked_values.new.held) c.args.r.now c.checked_values.new.r
    (ap view c.get.ensures ∙ c.in_ok-question.ensures) c.in_ok-values.ensures.gives c.checked_values.ensures.moves.faults (found ∙ same)

pub returns-clause-gives : goal.returns-clause-gives
returns-clause-gives g c =
    let found : None ≡ first_made (assignment_refusal c.args.locals.now) (assignments_of (view_assignments c.as_slice.result.now) c.as_slice-2.result.now) = c.in-None.ensures in
    let same : first_made (assignment_refusal c.args.locals.now) (assignments_of (view_assignments c.as_slice.result.now) c.as_slice-2.result.now)
    ≡ first_made (assignment_refusal c.args.locals.now) (assignments_of (view_assignments c.args.assignments.now) c.in_ok-values.values)
    = λ i. first_made (assignment_refusal c.args.locals.now) (assignments_of (view_assignments (c.as_slice.ensures i)) (c.as_slice-2.ensures i)) in
    set_done g.R.Ruled.rules g.R.Runner.faults c.args.world.now c.args.locals.now (view_assignments c.args.assignments.now) c.assign_all.new.locals (view c.get.result.now) c.in_ok-values.values c.assign_all.result (held_of c.args.held.now) (held_of c.checked_values.new.held) c.args.r.now c.checked_values.new.r c.assign_all.new.r
    (ap view c.get.ensures ∙ c.in_ok-question.ensures) c.in_ok-values.ensures.gives c.checked_values.ensures.moves.faults (found ∙ same) c.assign_all.ensures.gives
