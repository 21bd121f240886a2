use Rattle.std.proofs.lemmas.Result.{err_from_is_err_and}
use Rattle.sql_tree.specs.StatementView.{view}
use Rattle.proc_parts.specs.Calls.{always, held_of}
use Rattle.proc_parts.proofs.Plain.{plain_done, plain_unclosed, plain_unrun}
use Rattle.proc_parts.proofs.performing.plain_step.Goals as goal

pub returns-in_err-closed-clause-gives : goal.returns-in_err-closed-clause-gives
returns-in_err-closed-clause-gives g c =
    let p = err_from_is_err_and c.from_residual.result c.from_residual.ensures.1 in
    rw (p.1, p.2) (plain_unclosed g.R.Ruled.rules g.R.Runner.faults c.args.world.now c.args.locals.now (view c.args.s.now) (always c.args.locals.now) c.in_err-closed.field-0.0 (held_of c.args.held.now) c.args.r.now c.in_err-closed.ensures.closes)

pub returns-in_err-outcome-clause-gives : goal.returns-in_err-outcome-clause-gives
returns-in_err-outcome-clause-gives g c =
    let p = err_from_is_err_and c.from_residual-in_err-outcome.result c.from_residual-in_err-outcome.ensures.1 in
    rw (p.1, p.2) (plain_unrun g.R.Ruled.rules g.R.Runner.faults c.args.world.now c.args.locals.now (view c.args.s.now) (always c.args.locals.now) c.in_ok-closed.closed c.in_err-outcome.field-0.0 (held_of c.args.held.now) (held_of c.run_closed.new.held) c.args.r.now c.run_closed.new.r
    c.in_ok-closed.ensures.closes (rw c.get.ensures at c.in_err-outcome.ensures.gives))

pub returns-clause-gives : goal.returns-clause-gives
returns-clause-gives g c =
    plain_done g.R.Ruled.rules g.R.Runner.faults c.args.world.now c.args.locals.now (view c.args.s.now) c.in_ok-closed.closed c.in_ok-outcome.outcome tt (held_of c.args.held.now) (held_of c.run_closed.new.held) (held_of c.note.new.held) c.args.r.now c.run_closed.new.r
    c.in_ok-closed.ensures.closes (rw c.get.ensures at c.in_ok-outcome.ensures.gives) c.run_closed.ensures.moves.faults c.in_ok-note.ensures.noted
