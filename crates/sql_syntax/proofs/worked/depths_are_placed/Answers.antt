use Rattle.std.proofs.Common.{refl}
use Rattle.sql_grammar.specs.Reader.{steps}
use Rattle.sql_syntax.specs.Tokens.{kind}
use Rattle.sql_syntax.specs.Expressions.{nested}
use Rattle.sql_syntax.specs.Programs.{inner, created_within}
use Rattle.sql_syntax.proofs.worked.depths_are_placed.Goals as goal

pub returns-clause-minus : goal.returns-clause-minus
unfolding kind steps nested inner created_within
returns-clause-minus c = refl

pub returns-clause-nested : goal.returns-clause-nested
unfolding kind steps nested inner created_within
returns-clause-nested c = refl

pub returns-clause-floors : goal.returns-clause-floors
unfolding kind steps nested inner created_within
returns-clause-floors c = refl

pub returns-clause-types : goal.returns-clause-types
unfolding kind steps nested inner created_within
returns-clause-types c = refl

pub returns-clause-blocks : goal.returns-clause-blocks
unfolding kind steps nested inner created_within
returns-clause-blocks c = refl

pub returns-clause-fits : goal.returns-clause-fits
unfolding kind steps nested inner created_within
returns-clause-fits c = refl

pub returns-clause-too_many : goal.returns-clause-too_many
unfolding kind steps nested inner created_within
returns-clause-too_many c = refl

pub returns-clause-limits : goal.returns-clause-limits
returns-clause-limits c = (refl, refl)
