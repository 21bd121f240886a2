use Rattle.std.proofs.lemmas.Result.{err_from_is_err_and}
use Rattle.sql_tree.specs.StatementView.{view}
use Rattle.proc_parts.specs.Calls.{held_of, plainly}
use Rattle.proc_parts.proofs.Evaluated.{value_done, value_fails}
use Rattle.proc_parts.proofs.evaluating.value_of.Goals as goal

pub returns-in_err-values-clause-gives : goal.returns-in_err-values-clause-gives
returns-in_err-values-clause-gives g c =
    let p = err_from_is_err_and c.from_residual.result c.from_residual.ensures.1 in
    rw (p.1, p.2) (value_fails g.R.Ruled.rules g.R.Runner.faults c.args.world.now c.args.locals.now plainly plainly (view c.args.s.now) c.in_err-values.field-0.0 (held_of c.args.held.now) (held_of c.checked_values.new.held) c.args.r.now c.checked_values.new.r c.in_err-values.ensures.gives)

pub returns-clause-gives : goal.returns-clause-gives
returns-clause-gives g c =
    value_done g.R.Ruled.rules g.R.Runner.faults c.args.world.now c.args.locals.now (view c.args.s.now) c.in_ok-values.values c.first_of.result (held_of c.args.held.now) (held_of c.checked_values.new.held) c.args.r.now c.checked_values.new.r
    c.in_ok-values.ensures.gives c.first_of.ensures c.checked_values.ensures.moves.faults
