use Rattle.std.proofs.Common.{refl}
use Rattle.sql_grammar.specs.Reader.{steps}
use Rattle.sql_syntax.specs.Tokens.{kind}
use Rattle.sql_syntax.specs.Expressions.{nested}
use Rattle.sql_syntax.specs.Programs.{inner, created_within}
use Rattle.sql_syntax.proofs.worked.faults_are_placed.Goals as goal

pub returns-clause-form : goal.returns-clause-form
unfolding kind steps nested inner created_within
returns-clause-form c = refl

pub returns-clause-two : goal.returns-clause-two
unfolding kind steps nested inner created_within
returns-clause-two c = refl

pub returns-clause-nothing : goal.returns-clause-nothing
unfolding kind steps nested inner created_within
returns-clause-nothing c = refl

pub returns-clause-doubled : goal.returns-clause-doubled
unfolding kind steps nested inner created_within
returns-clause-doubled c = refl

pub returns-clause-unique : goal.returns-clause-unique
unfolding kind steps nested inner created_within
returns-clause-unique c = refl

pub returns-clause-keys : goal.returns-clause-keys
unfolding kind steps nested inner created_within
returns-clause-keys c = refl

pub returns-clause-keys_columns : goal.returns-clause-keys_columns
unfolding kind steps nested inner created_within
returns-clause-keys_columns c = refl

pub returns-clause-starts : goal.returns-clause-starts
unfolding kind steps nested inner created_within
returns-clause-starts c = refl

pub returns-clause-listed : goal.returns-clause-listed
unfolding kind steps nested inner created_within
returns-clause-listed c = refl

pub returns-clause-mixed : goal.returns-clause-mixed
unfolding kind steps nested inner created_within
returns-clause-mixed c = refl

pub returns-clause-ordered : goal.returns-clause-ordered
unfolding kind steps nested inner created_within
returns-clause-ordered c = refl

pub returns-clause-bare : goal.returns-clause-bare
unfolding kind steps nested inner created_within
returns-clause-bare c = refl

pub returns-clause-floor : goal.returns-clause-floor
unfolding kind steps nested inner created_within
returns-clause-floor c = refl

pub returns-clause-abs : goal.returns-clause-abs
unfolding kind steps nested inner created_within
returns-clause-abs c = refl

pub returns-clause-abs_two : goal.returns-clause-abs_two
unfolding kind steps nested inner created_within
returns-clause-abs_two c = refl

pub returns-clause-now : goal.returns-clause-now
unfolding kind steps nested inner created_within
returns-clause-now c = refl

pub returns-clause-rand : goal.returns-clause-rand
unfolding kind steps nested inner created_within
returns-clause-rand c = refl

pub returns-clause-subquery : goal.returns-clause-subquery
unfolding kind steps nested inner created_within
returns-clause-subquery c = refl

pub returns-clause-subquery_all : goal.returns-clause-subquery_all
unfolding kind steps nested inner created_within
returns-clause-subquery_all c = refl

pub returns-clause-limit : goal.returns-clause-limit
unfolding kind steps nested inner created_within
returns-clause-limit c = refl

pub returns-clause-preset : goal.returns-clause-preset
unfolding kind steps nested inner created_within
returns-clause-preset c = refl

pub returns-clause-old : goal.returns-clause-old
unfolding kind steps nested inner created_within
returns-clause-old c = refl

pub returns-clause-least : goal.returns-clause-least
unfolding kind steps nested inner created_within
returns-clause-least c = refl

pub returns-clause-wide : goal.returns-clause-wide
unfolding kind steps nested inner created_within
returns-clause-wide c = refl

pub returns-clause-wide_behind : goal.returns-clause-wide_behind
unfolding kind steps nested inner created_within
returns-clause-wide_behind c = refl

pub returns-clause-exists : goal.returns-clause-exists
unfolding kind steps nested inner created_within
returns-clause-exists c = refl

pub returns-clause-body : goal.returns-clause-body
unfolding kind steps nested inner created_within
returns-clause-body c = refl
