use Rattle.sql_syntax.proofs.StatementLaws.{statement_exact}
use Rattle.sql_syntax.proofs.laws.statements_are_exact.Goals as goal

pub returns : goal.returns
returns c = statement_exact
