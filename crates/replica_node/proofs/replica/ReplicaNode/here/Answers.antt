use Rattle.std.proofs.Common.{ap}
use Rattle.replica_node.specs.Kept.{Kept, replica_of}
use Rattle.replica_node.proofs.Going.{here_over}
use Rattle.replica_node.proofs.replica.ReplicaNode.here.Goals as goal

pub returns-clause-over : goal.returns-clause-over
returns-clause-over c =
    here_over c.self.inside.relay (replica_of c.args.self.now) c.here.result (ap (λ (k : Kept). k.relay) c.self.view_is) c.here.ensures.ahead c.here.ensures.place c.here.ensures.passed
