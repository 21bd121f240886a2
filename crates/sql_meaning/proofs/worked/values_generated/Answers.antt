use Rattle.std.proofs.Common.{refl}
use Rattle.sql_meaning.specs.Running.{effect}
use Rattle.sql_meaning.specs.Running.{level_of}
use Rattle.sql_meaning.proofs.worked.values_generated.Goals as goal

pub returns-clause-undone : goal.returns-clause-undone
unfolding effect level_of
returns-clause-undone c = refl

pub returns-clause-behind_it : goal.returns-clause-behind_it
unfolding effect level_of
returns-clause-behind_it c = refl

pub returns-clause-explicit : goal.returns-clause-explicit
unfolding effect level_of
returns-clause-explicit c = refl

pub returns-clause-by_ten : goal.returns-clause-by_ten
unfolding effect level_of
returns-clause-by_ten c = refl

pub returns-clause-offset_above : goal.returns-clause-offset_above
unfolding effect level_of
returns-clause-offset_above c = refl

pub returns-clause-past : goal.returns-clause-past
unfolding effect level_of
returns-clause-past c = refl

pub returns-clause-forced : goal.returns-clause-forced
unfolding effect level_of
returns-clause-forced c = refl
