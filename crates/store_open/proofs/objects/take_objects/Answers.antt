use Rattle.std.proofs.Common.{arith}
use Rattle.store_open.proofs.Onto.{all_onto, none_more, none_onto, one_onto}
use Rattle.store_open.proofs.objects.take_objects.Goals as goal

pub loop-object-init : goal.loop-object-init
loop-object-init c = none_onto c.args.count c.args.work.now c.args.bytes.now c.requires

pub loop-object-preserved : goal.loop-object-preserved
loop-object-preserved c = one_onto _ _ _ _ _ _ _ c.in-Some.next (omega arith) c.loop-object.invariant (rw c.in-Some.is at c.in_ok-next.ensures)

pub returns-in-None : goal.returns-in-None
returns-in-None c = none_more _ _ _ _ _ _ (omega arith) c.loop-object.invariant (rw c.in-None.is at c.in_ok-next.ensures)

pub returns : goal.returns
returns c = (all_onto _ _ _ _ _ _ (omega arith) c.loop-object.invariant, c.loop-object.invariant.none)
