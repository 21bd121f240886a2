use Rattle.std.proofs.Common.{sym, arith}
use Rattle.store_model.specs.Reading.{value_in}
use Rattle.store_bodies.proofs.Counting.{none_yet, one_more, none_more, all_read}
use Rattle.store_bodies.proofs.rows.take_values.Goals as goal

pub loop-value-init : goal.loop-value-init
loop-value-init c = none_yet value_in _ c.args.count c.args.bytes.now c.new-row.ensures

pub loop-value-preserved : goal.loop-value-preserved
loop-value-preserved c =
    one_more value_in _ _ _ _ _ _ _ _ (omega arith) (sym (rw c.in-Some.is at c.in_ok-value.ensures)) c.in_ok-push-in-Some.ensures.ok c.loop-value.invariant

pub returns-in-None : goal.returns-in-None
returns-in-None c = none_more value_in _ _ _ _ _ (omega arith) (sym (rw c.in-None.is at c.in_ok-value.ensures)) c.loop-value.invariant

pub returns : goal.returns
returns c = all_read value_in _ _ _ _ _ (omega arith) c.loop-value.invariant
