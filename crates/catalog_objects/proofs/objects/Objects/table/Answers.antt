use Rattle.std.proofs.Common.{ap, ◌∙◌}
use Rattle.catalog_objects.specs.Lookups.{table_if}
use Rattle.catalog_objects.proofs.Found.{table_found as found}
use Rattle.catalog_objects.proofs.objects.Objects.table.Goals as goal

pub returns : goal.returns
returns c = c.table_if.ensures ∙ ap table_if c.find.ensures ∙ found c.args.self.now c.args.name.now
