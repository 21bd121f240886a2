use Rattle.std.proofs.Common.{refl}
use Rattle.sql_meaning.specs.Running.{effect}
use Rattle.sql_meaning.specs.Running.{level_of}
use Rattle.sql_meaning.proofs.worked.expressions.Goals as goal

pub returns-clause-too_large : goal.returns-clause-too_large
unfolding effect level_of
returns-clause-too_large c = refl

pub returns-clause-zero_divisor : goal.returns-clause-zero_divisor
unfolding effect level_of
returns-clause-zero_divisor c = refl

pub returns-clause-mixed : goal.returns-clause-mixed
unfolding effect level_of
returns-clause-mixed c = refl

pub returns-clause-stops : goal.returns-clause-stops
unfolding effect level_of
returns-clause-stops c = refl

pub returns-clause-goes_on : goal.returns-clause-goes_on
unfolding effect level_of
returns-clause-goes_on c = refl

pub returns-clause-left_out : goal.returns-clause-left_out
unfolding effect level_of
returns-clause-left_out c = refl

pub returns-clause-drawn : goal.returns-clause-drawn
unfolding effect level_of
returns-clause-drawn c = refl

pub returns-clause-session : goal.returns-clause-session
unfolding effect level_of
returns-clause-session c = refl
