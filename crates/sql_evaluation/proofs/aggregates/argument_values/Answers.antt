use Rattle.std.proofs.Common.{arith}
use Rattle.std.proofs.lemmas.Result.{err_from_is_err_and}
use Rattle.exec_state.specs.Stage.{scene_of}
use Rattle.sql_evaluation.proofs.Forming.{arguments_fail_ends}
use Rattle.sql_evaluation.proofs.aggregates.argument_values.Goals as goal

pub returns-in_err-argument-clause-gives : goal.returns-in_err-argument-clause-gives
returns-in_err-argument-clause-gives g c =
    let p = err_from_is_err_and c.from_residual-in_err-argument.result c.from_residual-in_err-argument.ensures.1 in
    rw (p.1, p.2) (arguments_fail_ends c.args.around.now c.args.views.now c.as_slice-aggregate-items.result.now c.loop-aggregate.aggregate-index c.aggregate-item.result c.loop-aggregate.arguments _
    (scene_of c.loop-aggregate.stage) (scene_of c.argument.new.stage) _ (omega arith) c.aggregate-item.is c.in_err-argument.ensures.gives c.loop-aggregate.invariant.gives)
