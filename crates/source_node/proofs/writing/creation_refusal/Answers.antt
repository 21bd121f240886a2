use Rattle.std.proofs.Common.{ap, ◌∙◌}
use Rattle.session_transaction.specs.catalog_objects.Keys.{objects_of}
use Rattle.session_transaction.specs.catalog_rules.Creating.{first_refusal, table_checks}
use Rattle.source_node.proofs.Making.{creation_checks}
use Rattle.source_node.proofs.writing.creation_refusal.Goals as goal

pub returns : goal.returns
returns c = c.table_refusal.ensures ∙ ap (λ os. first_refusal (table_checks (objects_of os) c.args.table.now)) c.objects.ensures ∙ creation_checks (objects_of c.args.catalog.now) c.args.table.now
