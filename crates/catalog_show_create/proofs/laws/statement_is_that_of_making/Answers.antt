use Rattle.catalog_show_create.proofs.Made.{is_that_of_making}
use Rattle.catalog_show_create.proofs.laws.statement_is_that_of_making.Goals as goal

pub returns : goal.returns
returns c = is_that_of_making
