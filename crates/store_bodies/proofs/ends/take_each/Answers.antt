use Rattle.std.proofs.Common.{sym, ap, arith}
use Rattle.store_model.specs.Reading.{read_as}
use Rattle.store_model.specs.Snapshots.{end_in}
use Rattle.store_bodies.specs.Ends.{end_at, ends_at}
use Rattle.store_bodies.proofs.Counting.{none_yet, one_more, none_more, all_read}
use Rattle.store_bodies.proofs.Ending.{ends_grow}
use Rattle.store_bodies.proofs.ends.take_each.Goals as goal

pub loop-end-init : goal.loop-end-init
loop-end-init c = none_yet end_in _ c.args.count c.args.bytes.now (ap ends_at c.new-list.ensures)

pub loop-end-preserved : goal.loop-end-preserved
loop-end-preserved c =
    one_more end_in _ _ _ _ _ _ _ _ (omega arith) (ap (read_as end_at) (sym c.in-Some.ensures)) (ends_grow _ _ _ c.in_ok-push-in-Some.ensures.ok) c.loop-end.invariant

pub returns-in-None : goal.returns-in-None
returns-in-None c = none_more end_in _ _ _ _ _ (omega arith) (ap (read_as end_at) (sym c.in-None.ensures)) c.loop-end.invariant

pub returns : goal.returns
returns c = all_read end_in _ _ _ _ _ (omega arith) c.loop-end.invariant
