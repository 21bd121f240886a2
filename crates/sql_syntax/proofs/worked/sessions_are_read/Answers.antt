use Rattle.std.proofs.Common.{refl}
use Rattle.sql_grammar.specs.Reader.{steps}
use Rattle.sql_syntax.specs.Tokens.{kind}
use Rattle.sql_syntax.specs.Expressions.{nested}
use Rattle.sql_syntax.specs.Programs.{inner, created_within}
use Rattle.sql_syntax.proofs.worked.sessions_are_read.Goals as goal

pub returns-clause-does : goal.returns-clause-does
unfolding kind steps nested inner created_within
returns-clause-does c = refl

pub returns-clause-sets : goal.returns-clause-sets
unfolding kind steps nested inner created_within
returns-clause-sets c = refl

pub returns-clause-formats : goal.returns-clause-formats
unfolding kind steps nested inner created_within
returns-clause-formats c = refl

pub returns-clause-grouped : goal.returns-clause-grouped
unfolding kind steps nested inner created_within
returns-clause-grouped c = refl

pub returns-clause-longer : goal.returns-clause-longer
unfolding kind steps nested inner created_within
returns-clause-longer c = refl

pub returns-clause-others : goal.returns-clause-others
unfolding kind steps nested inner created_within
returns-clause-others c = refl

pub returns-clause-calls : goal.returns-clause-calls
unfolding kind steps nested inner created_within
returns-clause-calls c = refl

pub returns-clause-calls_none : goal.returns-clause-calls_none
unfolding kind steps nested inner created_within
returns-clause-calls_none c = refl

pub returns-clause-calls_some : goal.returns-clause-calls_some
unfolding kind steps nested inner created_within
returns-clause-calls_some c = refl

pub returns-clause-begins : goal.returns-clause-begins
unfolding kind steps nested inner created_within
returns-clause-begins c = refl

pub returns-clause-starts : goal.returns-clause-starts
unfolding kind steps nested inner created_within
returns-clause-starts c = refl

pub returns-clause-commits : goal.returns-clause-commits
unfolding kind steps nested inner created_within
returns-clause-commits c = refl

pub returns-clause-rolls : goal.returns-clause-rolls
unfolding kind steps nested inner created_within
returns-clause-rolls c = refl

pub returns-clause-rolls_to : goal.returns-clause-rolls_to
unfolding kind steps nested inner created_within
returns-clause-rolls_to c = refl

pub returns-clause-rolls_point : goal.returns-clause-rolls_point
unfolding kind steps nested inner created_within
returns-clause-rolls_point c = refl

pub returns-clause-rolls_named : goal.returns-clause-rolls_named
unfolding kind steps nested inner created_within
returns-clause-rolls_named c = refl

pub returns-clause-saves : goal.returns-clause-saves
unfolding kind steps nested inner created_within
returns-clause-saves c = refl

pub returns-clause-releases : goal.returns-clause-releases
unfolding kind steps nested inner created_within
returns-clause-releases c = refl

pub returns-clause-drops : goal.returns-clause-drops
unfolding kind steps nested inner created_within
returns-clause-drops c = refl

pub returns-clause-drops_function : goal.returns-clause-drops_function
unfolding kind steps nested inner created_within
returns-clause-drops_function c = refl

pub returns-clause-drops_procedure : goal.returns-clause-drops_procedure
unfolding kind steps nested inner created_within
returns-clause-drops_procedure c = refl

pub returns-clause-drops_trigger : goal.returns-clause-drops_trigger
unfolding kind steps nested inner created_within
returns-clause-drops_trigger c = refl

pub returns-clause-truncates : goal.returns-clause-truncates
unfolding kind steps nested inner created_within
returns-clause-truncates c = refl

pub returns-clause-truncates_table : goal.returns-clause-truncates_table
unfolding kind steps nested inner created_within
returns-clause-truncates_table c = refl

pub returns-clause-mixed : goal.returns-clause-mixed
unfolding kind steps nested inner created_within
returns-clause-mixed c = refl

pub returns-clause-statement : goal.returns-clause-statement
unfolding kind steps nested inner created_within
returns-clause-statement c = refl
