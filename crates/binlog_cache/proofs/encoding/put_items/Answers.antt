use Rattle.std.proofs.Common.{◌+◌, drop, arith}
use Rattle.binlog_sizes.specs.log_model.Items.{item_events}
use Rattle.binlog_sizes.proofs.of_row_events.GoingOn.{goes, next}
use Rattle.binlog_cache.proofs.Parts.{events_of, item_first, is_carried}
use Rattle.binlog_cache.proofs.encoding.put_items.Goals as goal

pub put_item-requires-clause-events : goal.put_item-requires-clause-events
put_item-requires-clause-events c =
    next (events_of c.args.kept.now) (item_events c.index.result.now.item) (events_of (drop (c.loop-place.place + 1) c.args.kept.now)) (events_of (drop c.loop-place.place c.args.kept.now)) c.args.h c.loop-place.here c.args.out.now c.loop-place.out
    (item_first c.args.kept.now c.loop-place.place c.index.result.now (omega (arith, c.len-place-end.ensures)) c.index.ensures) c.loop-place.invariant.goes

pub loop-place-preserved : goal.loop-place-preserved
loop-place-preserved c = record {
  carried = (is_carried c.args.kept.now c.loop-place.place c.index.result.now (omega (arith, c.len-place-end.ensures)) c.index.ensures c.loop-place.invariant.carried).1;
  goes =
      goes (events_of c.args.kept.now) (item_events c.index.result.now.item) (events_of (drop (c.loop-place.place + 1) c.args.kept.now)) (events_of (drop c.loop-place.place c.args.kept.now)) c.args.h c.loop-place.here c.in_ok-here.here c.args.out.now c.loop-place.out c.put_item.new.out
      (item_first c.args.kept.now c.loop-place.place c.index.result.now (omega (arith, c.len-place-end.ensures)) c.index.ensures) c.loop-place.invariant.goes c.in_ok-here.ensures.ok;
}
