use Rattle.std.proofs.Common.{◌≡◌, ◌≤◌, ◌+◌, drop}
use Rattle.store_source.specs.Pushed.{begun}
use Rattle.store_source.proofs.queue.logs_begun.Given as goal

abbrev pub invariant-loop-w : goal.invariant-loop-w
invariant-loop-w l = record {
  sum : l.logs + begun (drop l.w-index l.queue) ≡ begun l.queue;
  few : l.logs ≤ l.w-index;
}
