-- What the code's answers stand for.
use Rattle.changed_rows.specs.sql_meaning.Changing.{Did}
use Rattle.sql_statements.specs.declared.did.Did.{Did as Done}

-- what a statement came to
abbrev pub did_of : Done → Did
did_of d = record { affected = d.affected; shown = d.shown; first = d.first; last_id = d.last_id }
