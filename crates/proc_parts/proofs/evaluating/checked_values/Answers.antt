use Rattle.std.proofs.lemmas.Result.{err_from_is_err_and}
use Rattle.sql_tree.specs.StatementView.{view}
use Rattle.proc_parts.specs.Calls.{held_of, plainly}
use Rattle.proc_parts.proofs.Evaluated.{values_end, values_stopped}
use Rattle.proc_parts.proofs.evaluating.checked_values.Goals as goal

pub returns-in_err-check_closing-clause-gives : goal.returns-in_err-check_closing-clause-gives
returns-in_err-check_closing-clause-gives g c =
    let p = err_from_is_err_and c.from_residual.result c.from_residual.ensures.1 in
    rw (p.1, p.2) (values_stopped g.R.Ruled.rules g.R.Runner.faults c.args.world.now c.args.locals.now plainly (view c.args.s.now) c.in_err-check_closing.field-0.0 (held_of c.args.held.now) c.args.r.now c.requires.is c.in_err-check_closing.ensures.passes)

pub returns-clause-gives : goal.returns-clause-gives
returns-clause-gives g c =
    values_end g.R.Ruled.rules g.R.Runner.faults c.args.world.now c.args.locals.now plainly (view c.args.s.now) tt c.evaluate.result (held_of c.args.held.now) (held_of c.evaluate.new.held) c.args.r.now c.evaluate.new.r
    c.requires.is c.in_ok-check_closing.ensures.passes c.evaluate.ensures.gives
