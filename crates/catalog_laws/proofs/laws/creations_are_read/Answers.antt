use Rattle.sql_print.specs.StatementSpelling.{spelling}
use Rattle.catalog_show_create.specs.catalog_rules.Bases.{creation_of}
use Rattle.catalog_laws.proofs.laws.creations_are_read.Goals as goal

pub returns : goal.returns
returns c o is =
    let answered = (c.texts_are_answered.ensures (spelling (creation_of o))).statement (creation_of o) in
    answered.0 (c.prints_are_read.ensures (creation_of o) is.well)
