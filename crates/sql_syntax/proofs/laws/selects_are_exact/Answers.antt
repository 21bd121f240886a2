use Rattle.sql_syntax.proofs.ExpressionLaws.{select_exact}
use Rattle.sql_syntax.proofs.laws.selects_are_exact.Goals as goal

pub returns : goal.returns
returns c = select_exact
