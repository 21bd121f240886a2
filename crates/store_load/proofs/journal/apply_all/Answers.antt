use Rattle.std.proofs.Common.{◌-◌, length, sym, arith}
use Rattle.store_load.proofs.Journaling.{none_applied, end_is_opened, all_is_opened}
use Rattle.store_load.proofs.journal.apply_all.Goals as goal

pub loop-init : goal.loop-init
loop-init c = none_applied c.args.bytes.now c.args.stored.now c.requires

pub returns-in-End-clause-gate : goal.returns-in-End-clause-gate
returns-in-End-clause-gate c = end_is_opened _ _ _ _ _ c.loop.invariant (sym c.in-End.ensures.value)

pub returns-clause-gate : goal.returns-clause-gate
returns-clause-gate c = all_is_opened _ (length c.args.bytes.now - c.loop.counter) _ _ _ c.loop.invariant (omega (arith, c.loop-test.false))
