use Rattle.catalog_laws.proofs.Making.{still_made, defined_again}
use Rattle.catalog_laws.proofs.laws.still_made_again.Goals as goal

pub returns-clause-none : goal.returns-clause-none
returns-clause-none c = record { each = tt; again = tt }

pub returns-clause-more : goal.returns-clause-more
returns-clause-more c catalog s well none are = still_made c.object_is_made_by_its_statement.ensures c.statement_is_that_of_making.ensures catalog s well none are

pub returns-clause-bases : goal.returns-clause-bases
returns-clause-bases c text s base next bytes reads e are =
    defined_again c.object_is_made_by_its_statement.ensures c.statement_is_that_of_making.ensures s base next (c.answers_are_well.ensures text s bytes reads) e are
