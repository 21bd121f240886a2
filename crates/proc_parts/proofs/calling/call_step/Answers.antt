use Rattle.std.proofs.Common.{◌≡◌, ap, ◌∙◌}
use Rattle.std.proofs.lemmas.Result.{err_from_is_err_and}
use Rattle.sql_tree.specs.Statement.{evaluate}
use Rattle.sql_tree.specs.StatementView.{view}
use Rattle.sql_tree.specs.View.{view_trees}
use Rattle.proc_parts.specs.Calls.{always, held_of}
use Rattle.proc_parts.proofs.Called.{call_ends, call_unchecked, call_unclosed, call_unvalued}
use Rattle.proc_parts.proofs.calling.call_step.Goals as goal

pub returns-in_err-check_closing-clause-gives : goal.returns-in_err-check_closing-clause-gives
returns-in_err-check_closing-clause-gives g c =
    let p = err_from_is_err_and c.from_residual-in_err-check_closing.result c.from_residual-in_err-check_closing.ensures.1 in
    let asked : view c.get.result.now ≡ evaluate (view_trees c.args.arguments.now) = ap view c.get.ensures ∙ c.in_ok-question.ensures in
    rw (p.1, p.2) (call_unclosed g.R.Ruled.rules g.R.Runner.faults c.args.world.now c.args.locals.now c.args.name.now (view_trees c.args.arguments.now) (always c.args.locals.now) c.in_err-check_closing.field-0.0 (held_of c.args.held.now) c.args.r.now
    (rw asked at c.in_err-check_closing.ensures.passes))

pub returns-in_err-check_call-clause-gives : goal.returns-in_err-check_call-clause-gives
returns-in_err-check_call-clause-gives g c =
    let p = err_from_is_err_and c.from_residual-in_err-check_call.result c.from_residual-in_err-check_call.ensures.1 in
    let asked : view c.get.result.now ≡ evaluate (view_trees c.args.arguments.now) = ap view c.get.ensures ∙ c.in_ok-question.ensures in
    rw (p.1, p.2) (call_unchecked g.R.Ruled.rules g.R.Runner.faults c.args.world.now c.args.locals.now c.args.name.now (view_trees c.args.arguments.now) (always c.args.locals.now) tt c.in_err-check_call.field-0.0 (held_of c.args.held.now) c.args.r.now
    (rw asked at c.in_ok-check_closing.ensures.passes) (rw c.requires.is at c.in_err-check_call.ensures.passes))

pub returns-in_err-values-clause-gives : goal.returns-in_err-values-clause-gives
returns-in_err-values-clause-gives g c =
    let p = err_from_is_err_and c.from_residual-in_err-values.result c.from_residual-in_err-values.ensures.1 in
    let asked : view c.get.result.now ≡ evaluate (view_trees c.args.arguments.now) = ap view c.get.ensures ∙ c.in_ok-question.ensures in
    rw (p.1, p.2) (call_unvalued g.R.Ruled.rules g.R.Runner.faults c.args.world.now c.args.locals.now c.args.name.now (view_trees c.args.arguments.now) (always c.args.locals.now) tt tt c.in_err-values.field-0.0 (held_of c.args.held.now) (held_of c.argument_values.new.held) c.args.r.now c.argument_values.new.r
    (rw asked at c.in_ok-check_closing.ensures.passes) (rw c.requires.is at c.in_ok-check_call.ensures.passes) c.in_err-values.ensures.gives)

pub returns-clause-gives : goal.returns-clause-gives
returns-clause-gives g c =
    let asked : view c.get.result.now ≡ evaluate (view_trees c.args.arguments.now) = ap view c.get.ensures ∙ c.in_ok-question.ensures in
    call_ends g.R.Ruled.rules g.R.Runner.faults c.args.world.now c.args.locals.now c.args.name.now (view_trees c.args.arguments.now) tt tt c.in_ok-values.values c.call.result (held_of c.args.held.now) (held_of c.argument_values.new.held) (held_of c.call.new.arg3) c.args.r.now c.argument_values.new.r c.call.new.arg2
    (rw asked at c.in_ok-check_closing.ensures.passes) (rw c.requires.is at c.in_ok-check_call.ensures.passes) c.in_ok-values.ensures.gives c.argument_values.ensures.moves.faults
    (c.requires.calls _ _ _ _ _ _ _ c.call.ensures) (c.requires.moved _ _ _ _ _ _ _ c.call.ensures).faults
