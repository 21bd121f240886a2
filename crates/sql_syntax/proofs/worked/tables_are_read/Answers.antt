use Rattle.std.proofs.Common.{refl}
use Rattle.sql_grammar.specs.Reader.{steps}
use Rattle.sql_syntax.specs.Tokens.{kind}
use Rattle.sql_syntax.specs.Expressions.{nested}
use Rattle.sql_syntax.specs.Programs.{inner, created_within}
use Rattle.sql_syntax.proofs.worked.tables_are_read.Goals as goal

pub returns-clause-marked : goal.returns-clause-marked
unfolding kind steps nested inner created_within
returns-clause-marked c = refl

pub returns-clause-keyed : goal.returns-clause-keyed
unfolding kind steps nested inner created_within
returns-clause-keyed c = refl
