use Rattle.std.proofs.Common.{refl}
use Rattle.sql_grammar.specs.Reader.{steps}
use Rattle.sql_syntax.specs.Tokens.{kind}
use Rattle.sql_syntax.specs.Expressions.{nested}
use Rattle.sql_syntax.specs.Programs.{inner, created_within}
use Rattle.sql_syntax.specs.Spoken.{spoken_from}
use Rattle.sql_syntax.proofs.bytes.bytes_are_read.Goals as goal

pub returns-clause-names : goal.returns-clause-names
unfolding kind steps nested inner created_within spoken_from
returns-clause-names c = refl

pub returns-clause-called : goal.returns-clause-called
unfolding kind steps nested inner created_within spoken_from
returns-clause-called c = refl

pub returns-clause-texts : goal.returns-clause-texts
unfolding kind steps nested inner created_within spoken_from
returns-clause-texts c = refl

pub returns-clause-form : goal.returns-clause-form
unfolding kind steps nested inner created_within spoken_from
returns-clause-form c = refl

pub returns-clause-second : goal.returns-clause-second
unfolding kind steps nested inner created_within spoken_from
returns-clause-second c = refl

pub returns-clause-wide : goal.returns-clause-wide
unfolding kind steps nested inner created_within spoken_from
returns-clause-wide c = refl

pub returns-clause-wide_behind : goal.returns-clause-wide_behind
unfolding kind steps nested inner created_within spoken_from
returns-clause-wide_behind c = refl

pub returns-clause-empty : goal.returns-clause-empty
unfolding kind steps nested inner created_within spoken_from
returns-clause-empty c = refl
