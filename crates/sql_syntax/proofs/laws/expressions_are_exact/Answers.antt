use Rattle.sql_syntax.proofs.ExpressionLaws.{expression_exact}
use Rattle.sql_syntax.proofs.laws.expressions_are_exact.Goals as goal

pub returns : goal.returns
returns c = expression_exact
