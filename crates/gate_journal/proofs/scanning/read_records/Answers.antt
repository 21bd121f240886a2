use Rattle.std.proofs.Common.{◌+◌, ◌-◌, ◌∙◌, ap, sym, length, take, drop, refl, arith}
use Rattle.gate_journal.proofs.Reading.{none_yet, ends_at, ends_all, damaged_at, one_read}
use Rattle.gate_journal.proofs.scanning.read_records.Goals as goal

pub loop-init : goal.loop-init
loop-init c = none_yet c.args.bytes.now _ _ c.new-bodies.ensures c.new-gates.ensures

pub returns-in-End-clause-found : goal.returns-in-End-clause-found
returns-in-End-clause-found c = ends_at _ _ _ _ _ c.loop.invariant (sym c.in-End.ensures.value)

pub returns-in-Damaged-clause-damaged : goal.returns-in-Damaged-clause-damaged
returns-in-Damaged-clause-damaged c at e =
    damaged_at c.args.bytes.now _ (length c.args.bytes.now - (c.loop.counter + 1)) _ _ c.loop.gate c.loop.invariant (omega (arith, c.loop-test.true)) (sym c.in-Damaged.ensures.value) ∙ cc

pub loop-preserved : goal.loop-preserved
loop-preserved c = one_read c.args.bytes.now _ (length c.args.bytes.now - (c.loop.counter + 1)) _ _ _ _ c.loop.gate c.in-Record.size _ _ c.loop.invariant (omega (arith, c.loop-test.true)) (sym c.in-Record.ensures.value)
    c.in_ok-push-in-Record.ensures.ok (c.in_ok-from_slice-in-Record.ensures ∙ ap (λ n. take n (drop (c.loop.gate + 5) c.args.bytes.now)) (omega arith)) c.in_ok-push-in-Record-2.ensures.ok refl

pub returns-clause-found : goal.returns-clause-found
returns-clause-found c = ends_all _ (length c.args.bytes.now - c.loop.counter) _ _ _ c.loop.invariant (omega (arith, c.loop-test.false))
