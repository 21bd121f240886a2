use Rattle.std.proofs.Common.{◌≡◌, ◌≤◌, ◌+◌, List, length, reverse, take}
use Rattle.session_model.specs.log_entries.declared.entries.Entry.{Entry}
use Rattle.session_model.specs.Machine.{Whole}
use Rattle.durable_runs.specs.Sources.{Stored}
use Rattle.store_source.specs.Writing.{CanWrite}
use Rattle.store_source.specs.Pushed.{begun, wanted}
use Rattle.store_source.proofs.Queues.{Went}
use Rattle.store_source.proofs.queue.write_each.Given as goal

abbrev pub invariant-loop-w : goal.invariant-loop-w
invariant-loop-w g l = record {
  went : (s : Stored) (es : List (Entry Whole)) → CanWrite (g.D.Disk.told l.initial.d) l.initial.store s es l.fn.queue
      → Went (g.D.Disk.told l.initial.d) s es l.now (take l.initial.at l.initial.marks) (g.D.Disk.told l.d) l.store (reverse l.left) (take l.at l.marks);
  room : l.at + wanted (reverse l.left) ≤ length l.marks;
  logs : begun (reverse l.left) ≤ l.store.ends.room;
  generation : l.store.generation ≡ l.initial.store.generation;
  later : g.D.Disk.faults l.initial.d ≤ g.D.Disk.faults l.d;
}

abbrev pub decreases-loop-w : goal.decreases-loop-w
decreases-loop-w g l = length l.left
