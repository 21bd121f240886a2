use Rattle.sql_grammar.proofs.Sums.{text_exact}
use Rattle.sql_grammar.proofs.laws.sums_are_exact.Goals as goal

pub returns : goal.returns
returns c = text_exact
