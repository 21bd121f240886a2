use Rattle.std.proofs.Common.{refl}
use Rattle.sql_grammar.specs.Reader.{steps}
use Rattle.sql_syntax.specs.Tokens.{kind}
use Rattle.sql_syntax.specs.Expressions.{nested}
use Rattle.sql_syntax.specs.Programs.{inner, created_within}
use Rattle.sql_syntax.proofs.worked.expressions_are_read.Goals as goal

pub returns-clause-sums : goal.returns-clause-sums
unfolding kind steps nested inner created_within
returns-clause-sums c = refl

pub returns-clause-tight : goal.returns-clause-tight
unfolding kind steps nested inner created_within
returns-clause-tight c = refl

pub returns-clause-loose : goal.returns-clause-loose
unfolding kind steps nested inner created_within
returns-clause-loose c = refl

pub returns-clause-least : goal.returns-clause-least
unfolding kind steps nested inner created_within
returns-clause-least c = refl

pub returns-clause-subtracts : goal.returns-clause-subtracts
unfolding kind steps nested inner created_within
returns-clause-subtracts c = refl

pub returns-clause-tests : goal.returns-clause-tests
unfolding kind steps nested inner created_within
returns-clause-tests c = refl

pub returns-clause-left : goal.returns-clause-left
unfolding kind steps nested inner created_within
returns-clause-left c = refl

pub returns-clause-cases : goal.returns-clause-cases
unfolding kind steps nested inner created_within
returns-clause-cases c = refl

pub returns-clause-names : goal.returns-clause-names
unfolding kind steps nested inner created_within
returns-clause-names c = refl

pub returns-clause-literals : goal.returns-clause-literals
unfolding kind steps nested inner created_within
returns-clause-literals c = refl

pub returns-clause-built : goal.returns-clause-built
unfolding kind steps nested inner created_within
returns-clause-built c = refl

pub returns-clause-without : goal.returns-clause-without
unfolding kind steps nested inner created_within
returns-clause-without c = refl

pub returns-clause-special : goal.returns-clause-special
unfolding kind steps nested inner created_within
returns-clause-special c = refl

pub returns-clause-inner : goal.returns-clause-inner
unfolding kind steps nested inner created_within
returns-clause-inner c = refl
