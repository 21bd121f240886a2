use Rattle.std.proofs.Common.{◌∙◌, ap}
use Rattle.stmt_apply.specs.prog_run.prog_work.catalog_objects.Keys.{objects_of}
use Rattle.replica_node.specs.Kept.{Kept, replica_of}
use Rattle.replica_node.proofs.replica.ReplicaNode.objects.Goals as goal

pub returns : goal.returns
returns c = ap objects_of (c.objects.ensures ∙ c.catalog.ensures) ∙ ap (λ (k : Kept). (replica_of k).base.catalog) c.self.view_is
