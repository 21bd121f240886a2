use Rattle.std.proofs.Common.{◌≡◌, ◌==◌, true, false, sym, ap, ◌∙◌, arith}
use Rattle.std.proofs.lemmas.Bool.Decides.{nat_tests}
use Rattle.std.proofs.lemmas.Result.{err_from_is_err_and}
use Rattle.sql_tree.specs.StatementView.{view_program}
use Rattle.proc_parts.specs.sql_meaning.Frames.{Running}
use Rattle.proc_parts.specs.Calls.{always, held_of, plainly}
use Rattle.proc_run.proofs.Nested.{body_ends, body_unfit, call_absent, call_ends, call_miscounted, call_running, call_too_deep, counted_is}
use Rattle.proc_run.proofs.nesting.+nesting.Goals as goal

pub call_procedure-returns-then-len-clause-gives : goal.call_procedure-returns-then-len-clause-gives
call_procedure-returns-then-len-clause-gives g t c =
    let counted : (c.len.result == c.len-2.result) ≡ false = grind (arith, nat_tests) in
    rw c.refused-then-len.ensures (call_miscounted g.R.Ruled.rules g.R.Runner.faults c.args.world.now c.args.name.now c.args.values plainly (view_program c.in-Some.routine.now) (held_of c.args.held.now) c.args.r.now c.in-Some.ensures
    (counted_is c.in-Some.routine.now c.args.values c.len.result c.len-2.result false c.len.ensures c.len-2.ensures counted))

pub call_procedure-returns-then-is_called-clause-gives : goal.call_procedure-returns-then-is_called-clause-gives
call_procedure-returns-then-is_called-clause-gives g t c =
    let counted : (c.len.result == c.len-2.result) ≡ true = grind (arith, nat_tests) in
    rw c.refused-then-is_called.ensures (call_running g.R.Ruled.rules g.R.Runner.faults c.args.world.now c.args.name.now c.args.values plainly (view_program c.in-Some.routine.now) (held_of c.args.held.now) c.args.r.now c.in-Some.ensures
    (counted_is c.in-Some.routine.now c.args.values c.len.result c.len-2.result true c.len.ensures c.len-2.ensures counted) (sym c.is_called.ensures ∙ c.if-is_called.true))

pub call_procedure-returns-then-world-eq0-clause-gives : goal.call_procedure-returns-then-world-eq0-clause-gives
call_procedure-returns-then-world-eq0-clause-gives g t c =
    let counted : (c.len.result == c.len-2.result) ≡ true = grind (arith, nat_tests) in
    rw c.refused-then-world-eq0.ensures (call_too_deep g.R.Ruled.rules g.R.Runner.faults c.args.world.now c.args.name.now c.args.values plainly (view_program c.in-Some.routine.now) (held_of c.args.held.now) c.args.r.now c.in-Some.ensures
    (counted_is c.in-Some.routine.now c.args.values c.len.result c.len-2.result true c.len.ensures c.len-2.ensures counted) (sym c.is_called.ensures ∙ c.if-is_called.false) (omega arith))

pub call_procedure-returns-clause-gives : goal.call_procedure-returns-clause-gives
call_procedure-returns-clause-gives g t c =
    let counted : (c.len.result == c.len-2.result) ≡ true = grind (arith, nat_tests) in
    call_ends g.R.Ruled.rules g.R.Runner.faults c.args.world.now c.args.name.now c.args.values c.further_down-inner.result (view_program c.in-Some.routine.now) c.run_procedure.result (held_of c.args.held.now) (held_of c.run_procedure.new.held) c.args.r.now c.run_procedure.new.r c.in-Some.ensures
    (counted_is c.in-Some.routine.now c.args.values c.len.result c.len-2.result true c.len.ensures c.len-2.ensures counted) (sym c.is_called.ensures ∙ c.if-is_called.false) (omega arith)
    c.further_down-inner.ensures.catalog c.further_down-inner.ensures.nesting (ap (λ (u : Running). u.functions) c.further_down-inner.ensures.running ∙ c.inside-running.ensures) c.run_procedure.ensures.gives

pub call_procedure-returns-in_default-clause-gives : goal.call_procedure-returns-in_default-clause-gives
call_procedure-returns-in_default-clause-gives g t c =
    rw c.refused.ensures (call_absent g.R.Ruled.rules g.R.Runner.faults c.args.world.now c.args.name.now c.args.values plainly (held_of c.args.held.now) c.args.r.now c.in_default.ensures)

pub run_procedure-returns-in_err-parameters-clause-gives : goal.run_procedure-returns-in_err-parameters-clause-gives
run_procedure-returns-in_err-parameters-clause-gives g t c =
    let p = err_from_is_err_and c.from_residual.result c.from_residual.ensures.1 in
    rw (p.1, p.2) (body_unfit g.R.Ruled.rules g.R.Runner.faults c.args.world.now c.args.routine.now c.args.values (always c.parameters.new.locals) plainly c.in_err-parameters.field-0.0 (held_of c.args.held.now) c.args.r.now
    (rw c.new-locals.ensures at c.in_err-parameters.ensures))

pub run_procedure-returns-clause-gives : goal.run_procedure-returns-clause-gives
run_procedure-returns-clause-gives g t c =
    body_ends g.R.Ruled.rules g.R.Runner.faults c.args.world.now c.args.routine.now c.args.values c.parameters.new.locals c.step.new.locals tt c.step.result (held_of c.args.held.now) (held_of c.step.new.held) c.args.r.now c.step.new.r
    (rw c.new-locals.ensures at c.in_ok-parameters.ensures) c.step.ensures.moves.faults c.step.ensures.gives
