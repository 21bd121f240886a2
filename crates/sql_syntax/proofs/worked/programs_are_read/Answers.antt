use Rattle.std.proofs.Common.{refl}
use Rattle.sql_grammar.specs.Reader.{steps}
use Rattle.sql_syntax.specs.Tokens.{kind}
use Rattle.sql_syntax.specs.Expressions.{nested}
use Rattle.sql_syntax.specs.Programs.{inner, created_within}
use Rattle.sql_syntax.proofs.worked.programs_are_read.Goals as goal

pub returns-clause-functions : goal.returns-clause-functions
unfolding kind steps nested inner created_within
returns-clause-functions c = refl

pub returns-clause-procedures : goal.returns-clause-procedures
unfolding kind steps nested inner created_within
returns-clause-procedures c = refl

pub returns-clause-triggers : goal.returns-clause-triggers
unfolding kind steps nested inner created_within
returns-clause-triggers c = refl

pub returns-clause-creates : goal.returns-clause-creates
unfolding kind steps nested inner created_within
returns-clause-creates c = refl

pub returns-clause-empty : goal.returns-clause-empty
unfolding kind steps nested inner created_within
returns-clause-empty c = refl
