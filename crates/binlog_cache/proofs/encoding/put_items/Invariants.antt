use Rattle.std.proofs.Common.{drop}
use Rattle.binlog_sizes.specs.log_model.Items.{AreCarried}
use Rattle.binlog_sizes.specs.row_events.Writing.{GoesOn}
use Rattle.binlog_cache.specs.Sums.{items_of}
use Rattle.binlog_cache.proofs.Parts.{events_of}
use Rattle.binlog_cache.proofs.encoding.put_items.Given as goal

abbrev pub invariant-loop-place : goal.invariant-loop-place
invariant-loop-place l = record {
  carried : AreCarried (items_of (drop l.place l.kept));
  goes : GoesOn (events_of l.kept) (events_of (drop l.place l.kept)) l.fn.h l.here l.fn.out l.out;
}
