use Rattle.std.proofs.Common.{arith}
use Rattle.std.proofs.lemmas.Result.{err_from_is_err_and}
use Rattle.proc_parts.proofs.Assigned.{all_end, all_fail, all_more, all_short}
use Rattle.proc_parts.proofs.Behind.{moves_on}
use Rattle.proc_parts.proofs.assigning.assign_all.Goals as goal

pub returns-in_default-clause-gives : goal.returns-in_default-clause-gives
returns-in_default-clause-gives g c =
    all_short g.R.Ruled.rules g.R.Runner.faults c.loop-assignment.locals c.args.locals.now c.as_slice-assignment-items.result.now c.loop-assignment.assignment-index c.loop-assignment.values tt c.args.r.now c.loop-assignment.r _ c.in_default.ensures.0 c.loop-assignment.invariant.gives

pub returns-in_err-assign_one-clause-gives : goal.returns-in_err-assign_one-clause-gives
returns-in_err-assign_one-clause-gives g c =
    let p = err_from_is_err_and c.from_residual.result c.from_residual.ensures.1 in
    rw (p.1, p.2) (all_fail g.R.Ruled.rules g.R.Runner.faults c.loop-assignment.locals c.assign_one.new.locals c.as_slice-assignment-items.result.now c.loop-assignment.assignment-index c.assignment-item.result c.in-Some.value c.loop-assignment.values c.take_first.new.values c.in_err-assign_one.field-0.0 c.args.r.now c.loop-assignment.r c.assign_one.new.r _
    (omega arith) c.assignment-item.is c.in-Some.ensures c.in_err-assign_one.ensures.gives c.args.locals.now c.loop-assignment.invariant.gives)

pub loop-assignment-preserved : goal.loop-assignment-preserved
loop-assignment-preserved g c = record {
  gives =
      all_more g.R.Ruled.rules g.R.Runner.faults c.loop-assignment.locals c.assign_one.new.locals c.as_slice-assignment-items.result.now c.loop-assignment.assignment-index c.assignment-item.result c.in-Some.value c.loop-assignment.values c.take_first.new.values tt c.args.r.now c.loop-assignment.r c.assign_one.new.r _
      (omega arith) c.assignment-item.is c.in-Some.ensures c.in_ok-assign_one.ensures.gives c.assign_one.ensures.moves.faults c.loop-assignment.invariant.gives;
  moves = moves_on _ _ _ _ _ _ c.loop-assignment.invariant.moves c.assign_one.ensures.moves;
}

pub returns-clause-gives : goal.returns-clause-gives
returns-clause-gives g c =
    all_end g.R.Ruled.rules g.R.Runner.faults c.loop-assignment.locals c.args.locals.now c.as_slice-assignment-items.result.now c.loop-assignment.assignment-index c.loop-assignment.values tt c.args.r.now c.loop-assignment.r _ (omega arith) c.loop-assignment.invariant.gives
