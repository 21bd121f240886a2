use Rattle.std.proofs.Common.{refl}
use Rattle.sql_syntax.proofs.laws.minuses_are_told_apart.Goals as goal

pub returns-clause-tight : goal.returns-clause-tight
returns-clause-tight c = refl

pub returns-clause-loose : goal.returns-clause-loose
returns-clause-loose c = refl

pub returns-clause-broken : goal.returns-clause-broken
returns-clause-broken c = refl
