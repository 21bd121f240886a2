use Rattle.std.proofs.Common.{arith}
use Rattle.std.proofs.lemmas.Result.{err_from_is_err_and}
use Rattle.stored_programs.proofs.Calling.{locals_fail}
use Rattle.stored_programs.proofs.programs.locals_for.Goals as goal

pub returns-in_err-local_for : goal.returns-in_err-local_for
returns-in_err-local_for c =
    let p = err_from_is_err_and c.from_residual.result c.from_residual.ensures.1 in
    rw (p.1, p.2) (locals_fail c.loop-parameter.locals c.as_slice-parameter-items.result.now c.loop-parameter.parameter-index c.parameter-item.result c.in-Some.value c.loop-parameter.arguments c.take_first.new.values c.in_err-local_for.field-0.0 _
    (omega arith) c.parameter-item.is c.in-Some.ensures c.in_err-local_for.ensures c.loop-parameter.invariant)
