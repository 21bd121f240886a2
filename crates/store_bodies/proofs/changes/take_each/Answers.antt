use Rattle.std.proofs.Common.{sym, arith}
use Rattle.store_model.specs.Reading.{change_in}
use Rattle.store_bodies.proofs.Counting.{none_yet, one_more, none_more, all_read}
use Rattle.store_bodies.proofs.changes.take_each.Goals as goal

pub loop-change-init : goal.loop-change-init
loop-change-init c = none_yet change_in _ c.args.count c.args.bytes.now c.new-list.ensures

pub loop-change-preserved : goal.loop-change-preserved
loop-change-preserved c =
    one_more change_in _ _ _ _ _ _ _ _ (omega arith) (sym (rw c.in-Some.is at c.in_ok-change.ensures)) c.in_ok-push-in-Some.ensures.ok c.loop-change.invariant

pub returns-in-None : goal.returns-in-None
returns-in-None c = none_more change_in _ _ _ _ _ (omega arith) (sym (rw c.in-None.is at c.in_ok-change.ensures)) c.loop-change.invariant

pub returns : goal.returns
returns c = all_read change_in _ _ _ _ _ (omega arith) c.loop-change.invariant
