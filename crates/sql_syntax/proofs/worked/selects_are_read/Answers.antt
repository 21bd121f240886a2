use Rattle.std.proofs.Common.{refl}
use Rattle.sql_grammar.specs.Reader.{steps}
use Rattle.sql_syntax.specs.Tokens.{kind}
use Rattle.sql_syntax.specs.Expressions.{nested}
use Rattle.sql_syntax.specs.Programs.{inner, created_within}
use Rattle.sql_syntax.proofs.worked.selects_are_read.Goals as goal

pub returns-clause-totals : goal.returns-clause-totals
unfolding kind steps nested inner created_within
returns-clause-totals c = refl

pub returns-clause-all : goal.returns-clause-all
unfolding kind steps nested inner created_within
returns-clause-all c = refl

pub returns-clause-columns : goal.returns-clause-columns
unfolding kind steps nested inner created_within
returns-clause-columns c = refl

pub returns-clause-shown : goal.returns-clause-shown
unfolding kind steps nested inner created_within
returns-clause-shown c = refl
