use Rattle.std.proofs.Common.{refl}
use Rattle.sql_grammar.specs.Reader.{steps}
use Rattle.sql_syntax.specs.Tokens.{kind}
use Rattle.sql_syntax.specs.Expressions.{nested}
use Rattle.sql_syntax.specs.Programs.{inner, created_within}
use Rattle.sql_syntax.proofs.worked.changes_are_read.Goals as goal

pub returns-clause-inserts : goal.returns-clause-inserts
unfolding kind steps nested inner created_within
returns-clause-inserts c = refl

pub returns-clause-copies : goal.returns-clause-copies
unfolding kind steps nested inner created_within
returns-clause-copies c = refl

pub returns-clause-replaces : goal.returns-clause-replaces
unfolding kind steps nested inner created_within
returns-clause-replaces c = refl

pub returns-clause-updates : goal.returns-clause-updates
unfolding kind steps nested inner created_within
returns-clause-updates c = refl

pub returns-clause-deletes : goal.returns-clause-deletes
unfolding kind steps nested inner created_within
returns-clause-deletes c = refl
