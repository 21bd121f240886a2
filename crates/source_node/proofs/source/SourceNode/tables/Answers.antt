use Rattle.std.proofs.Common.{◌∙◌, ap}
use Rattle.session_transaction.specs.catalog_rules.Bases.{definitions_in}
use Rattle.source_node.specs.Standing.{Kept, state_of}
use Rattle.source_node.proofs.source.SourceNode.tables.Goals as goal

pub returns-clause-committed : goal.returns-clause-committed
returns-clause-committed c = c.stored.ensures.committed ∙ ap (λ (k : Kept). (state_of k).shared.base.tables) c.self.view_is

pub returns-clause-theirs : goal.returns-clause-theirs
returns-clause-theirs c = c.stored.ensures.theirs ∙ ap (λ (k : Kept). definitions_in ((state_of k).shared.base.catalog)) c.self.view_is
