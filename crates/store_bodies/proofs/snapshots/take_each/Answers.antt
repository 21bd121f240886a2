use Rattle.std.proofs.Common.{sym, arith}
use Rattle.store_model.specs.Reading.{row_in}
use Rattle.store_bodies.proofs.Counting.{none_yet, one_more, none_more, all_read}
use Rattle.store_bodies.proofs.snapshots.take_each.Goals as goal

pub loop-row-init : goal.loop-row-init
loop-row-init c = none_yet row_in _ c.args.count c.args.bytes.now c.new-list.ensures

pub loop-row-preserved : goal.loop-row-preserved
loop-row-preserved c =
    one_more row_in _ _ _ _ _ _ _ _ (omega arith) (sym (rw c.in-Some.is at c.in_ok-row.ensures)) c.in_ok-push-in-Some.ensures.ok c.loop-row.invariant

pub returns-in-None : goal.returns-in-None
returns-in-None c = none_more row_in _ _ _ _ _ (omega arith) (sym (rw c.in-None.is at c.in_ok-row.ensures)) c.loop-row.invariant

pub returns : goal.returns
returns c = all_read row_in _ _ _ _ _ (omega arith) c.loop-row.invariant
