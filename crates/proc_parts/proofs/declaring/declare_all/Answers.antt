use Rattle.std.proofs.Common.{arith}
use Rattle.std.proofs.lemmas.Result.{err_from_is_err_and}
use Rattle.proc_parts.specs.Calls.{always, held_of}
use Rattle.proc_parts.proofs.Behind.{moves_on}
use Rattle.proc_parts.proofs.Declared.{declares_end, declares_fail, declares_more}
use Rattle.proc_parts.proofs.declaring.declare_all.Goals as goal

pub returns-in_err-declare-clause-gives : goal.returns-in_err-declare-clause-gives
returns-in_err-declare-clause-gives g c =
    let p = err_from_is_err_and c.from_residual.result c.from_residual.ensures.1 in
    rw (p.1, p.2) (declares_fail g.R.Ruled.rules g.R.Runner.faults c.args.world.now c.loop-declaration.locals c.declare.new.locals (always c.declare.new.locals) c.as_slice-declaration-items.result.now c.loop-declaration.declaration-index c.declaration-item.result c.in_err-declare.field-0.0 (held_of c.loop-declaration.held) (held_of c.declare.new.held) c.args.r.now c.loop-declaration.r c.declare.new.r _
    (omega arith) c.declaration-item.is c.in_err-declare.ensures.gives c.loop-declaration.invariant.gives)

pub loop-declaration-preserved : goal.loop-declaration-preserved
loop-declaration-preserved g c = record {
  gives =
      declares_more g.R.Ruled.rules g.R.Runner.faults c.args.world.now c.loop-declaration.locals c.declare.new.locals c.as_slice-declaration-items.result.now c.loop-declaration.declaration-index c.declaration-item.result tt (held_of c.loop-declaration.held) (held_of c.declare.new.held) c.args.r.now c.loop-declaration.r c.declare.new.r _
      (omega arith) c.declaration-item.is c.in_ok-declare.ensures.gives c.declare.ensures.moves.faults c.loop-declaration.invariant.gives;
  moves = moves_on _ _ _ _ _ _ c.loop-declaration.invariant.moves c.declare.ensures.moves;
}

pub returns-clause-gives : goal.returns-clause-gives
returns-clause-gives g c =
    declares_end g.R.Ruled.rules g.R.Runner.faults c.args.world.now c.loop-declaration.locals c.as_slice-declaration-items.result.now c.loop-declaration.declaration-index tt (held_of c.loop-declaration.held) c.args.r.now c.loop-declaration.r _ (omega arith) c.loop-declaration.invariant.gives
