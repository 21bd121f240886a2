use Rattle.catalog_laws.proofs.Making.{names_short}
use Rattle.catalog_laws.proofs.laws.tables_have_names.Goals as goal

pub returns : goal.returns
returns c catalog are = names_short catalog are.each
