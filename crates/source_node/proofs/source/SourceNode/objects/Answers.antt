use Rattle.std.proofs.Common.{◌∙◌, ap}
use Rattle.session_transaction.specs.catalog_objects.Keys.{objects_of}
use Rattle.source_node.specs.Standing.{Kept, state_of}
use Rattle.source_node.proofs.source.SourceNode.objects.Goals as goal

pub returns : goal.returns
returns c = ap objects_of (c.objects.ensures ∙ c.catalog.ensures) ∙ ap (λ (k : Kept). (state_of k).shared.base.catalog) c.self.view_is
