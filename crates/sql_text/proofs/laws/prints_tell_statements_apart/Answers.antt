use Rattle.sql_text.proofs.Statements.{print_is_its_own, prints_differ}
use Rattle.sql_text.proofs.laws.prints_tell_statements_apart.Goals as goal

pub returns-clause-only : goal.returns-clause-only
returns-clause-only c = print_is_its_own

pub returns-clause-apart : goal.returns-clause-apart
returns-clause-apart c = prints_differ
