use Rattle.std.proofs.Common.{◌≡◌, ◌≤◌, ◌+◌, length, take, drop}
use Rattle.store_source.specs.Pushed.{wanted}
use Rattle.store_source.proofs.queue.push_all.Given as goal

abbrev pub invariant-loop-w : goal.invariant-loop-w
invariant-loop-w l = record {
  front : take (length l.initial.marks) l.marks ≡ l.initial.marks;
  longer : length l.initial.marks ≤ length l.marks;
  room : length l.marks + wanted (drop l.w-index l.queue) ≡ length l.initial.marks + wanted l.queue;
}
