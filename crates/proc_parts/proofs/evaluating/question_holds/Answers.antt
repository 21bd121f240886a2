use Rattle.std.proofs.Common.{sym, ◌∙◌}
use Rattle.std.proofs.lemmas.Result.{err_from_is_err_and}
use Rattle.sql_tree.specs.StatementView.{view}
use Rattle.proc_parts.specs.Calls.{held_of, plainly}
use Rattle.proc_parts.proofs.Conditions.{holds_mixed, holds_told, holds_untold}
use Rattle.proc_parts.proofs.evaluating.question_holds.Goals as goal

pub returns-in_err-value-clause-gives : goal.returns-in_err-value-clause-gives
returns-in_err-value-clause-gives g c =
    let p = err_from_is_err_and c.from_residual.result c.from_residual.ensures.1 in
    rw (p.1, p.2) (holds_untold g.R.Ruled.rules g.R.Runner.faults c.args.world.now plainly plainly c.args.locals.now (view c.args.s.now) c.in_err-value.field-0.0 (held_of c.args.held.now) (held_of c.value_of.new.held) c.args.r.now c.value_of.new.r c.in_err-value.ensures.gives)

pub returns-in-Ok-clause-gives : goal.returns-in-Ok-clause-gives
returns-in-Ok-clause-gives g c =
    holds_told g.R.Ruled.rules g.R.Runner.faults c.args.world.now c.args.locals.now (view c.args.s.now) c.in_ok-value.value c.in-Ok.goes (held_of c.args.held.now) (held_of c.value_of.new.held) c.args.r.now c.value_of.new.r
    c.in_ok-value.ensures.gives (sym (c.in-Ok.is) ∙ c.holds.ensures) c.value_of.ensures.moves.faults

pub returns-clause-gives : goal.returns-clause-gives
returns-clause-gives g c =
    holds_mixed g.R.Ruled.rules g.R.Runner.faults c.args.world.now plainly c.args.locals.now (view c.args.s.now) c.in_ok-value.value c.in-Err.code (held_of c.args.held.now) (held_of c.value_of.new.held) c.args.r.now c.value_of.new.r
    c.in_ok-value.ensures.gives (sym (c.in-Err.is) ∙ c.holds.ensures) c.value_of.ensures.moves.faults
