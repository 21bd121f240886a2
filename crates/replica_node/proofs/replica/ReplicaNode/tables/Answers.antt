use Rattle.std.proofs.Common.{◌∙◌, ap}
use Rattle.log_groups.specs.catalog_rules.Bases.{definitions_in}
use Rattle.replica_node.specs.Kept.{Kept, replica_of}
use Rattle.replica_node.proofs.replica.ReplicaNode.tables.Goals as goal

pub returns-clause-committed : goal.returns-clause-committed
returns-clause-committed c = c.stored.ensures.none c.self.invariant ∙ ap (λ (k : Kept). (replica_of k).base.tables) c.self.view_is

pub returns-clause-theirs : goal.returns-clause-theirs
returns-clause-theirs c = c.stored.ensures.theirs ∙ ap (λ (k : Kept). definitions_in ((replica_of k).base.catalog)) c.self.view_is
