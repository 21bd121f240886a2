use Rattle.catalog_show_create.proofs.Made.{made_again}
use Rattle.catalog_show_create.proofs.laws.object_is_made_by_its_statement.Goals as goal

pub returns : goal.returns
returns c = made_again
