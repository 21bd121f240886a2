use Rattle.std.proofs.Common.{◌≡◌, ◌≤◌, ◌-◌, length}
use Rattle.replica_node.specs.Kept.{replica_of}
use Rattle.replica_node.specs.Steps.{IsOver}
use Rattle.replica_node.proofs.Fronts.{IsBehind}
use Rattle.replica_node.proofs.Going.{IsUnder}
use Rattle.durable_replica.specs.Going.{HasKept}
use Rattle.durable_replica.proofs.replica.DurableReplica.carry_on.Given as goal

abbrev pub invariant-loop-count : goal.invariant-loop-count
invariant-loop-count g l = record {
  identity : l.self.node.identity ≡ l.fn.self.node.identity;
  over : IsOver (replica_of l.self.node) l.ahead;
  low : l.count ≤ l.wanted;
  behind : IsBehind l.wanted l.fn.self.node.identity l.draw (replica_of l.fn.self.node) (replica_of l.self.node) l.ahead.passed l.count;
  under : IsUnder l.wanted l.fn.self.node.identity l.draw (replica_of l.fn.self.node) (replica_of l.self.node) l.ahead.passed l.count;
  kept : HasKept l.wanted l.fn.self.node.identity l.draw (replica_of l.fn.self.node) (g.D.Disk.told l.fn.d) l.fn.report (g.D.Disk.told l.d) (replica_of l.self.node) l.self.store l.self.fetched l.report l.count;
  generation : l.self.store.generation ≡ l.fn.self.store.generation;
  later : g.D.Disk.faults l.fn.d ≤ g.D.Disk.faults l.d;
}

abbrev pub decreases-loop-count : goal.decreases-loop-count
decreases-loop-count g l = length (replica_of l.self.node).relay - l.ahead.passed
