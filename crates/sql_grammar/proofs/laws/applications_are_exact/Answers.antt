use Rattle.sql_grammar.proofs.Sums.{application_exact}
use Rattle.sql_grammar.proofs.laws.applications_are_exact.Goals as goal

pub returns : goal.returns
returns c = application_exact
