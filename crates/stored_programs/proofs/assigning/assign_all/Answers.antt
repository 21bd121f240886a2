use Rattle.std.proofs.Common.{arith}
use Rattle.std.proofs.lemmas.Result.{err_from_is_err_and}
use Rattle.stored_programs.proofs.Assigned.{assigned_fails}
use Rattle.stored_programs.proofs.assigning.assign_all.Goals as goal

pub returns-in_err-assign_one : goal.returns-in_err-assign_one
returns-in_err-assign_one c =
    let p = err_from_is_err_and c.from_residual.result c.from_residual.ensures.1 in
    rw (p.1, p.2) (assigned_fails c.loop-assignment.body c.assign_one.new.body c.as_slice-assignment-items.result.now c.loop-assignment.assignment-index c.assignment-item.result c.in-Some.value c.loop-assignment.values c.take_first.new.values c.in_err-assign_one.field-0.0 _
    (omega arith) c.assignment-item.is c.in-Some.ensures c.in_err-assign_one.ensures c.loop-assignment.invariant)
