use Rattle.std.proofs.Common.{refl}
use Rattle.sql_meaning.specs.Running.{effect}
use Rattle.sql_meaning.specs.Running.{level_of}
use Rattle.sql_meaning.proofs.worked.selected_rows.Goals as goal

pub returns-clause-sorted : goal.returns-clause-sorted
unfolding effect level_of
returns-clause-sorted c = refl

pub returns-clause-cut_behind : goal.returns-clause-cut_behind
unfolding effect level_of
returns-clause-cut_behind c = refl

pub returns-clause-aggregated : goal.returns-clause-aggregated
unfolding effect level_of
returns-clause-aggregated c = refl

pub returns-clause-sum_of_none : goal.returns-clause-sum_of_none
unfolding effect level_of
returns-clause-sum_of_none c = refl

pub returns-clause-two_rows : goal.returns-clause-two_rows
unfolding effect level_of
returns-clause-two_rows c = refl

pub returns-clause-correlated : goal.returns-clause-correlated
unfolding effect level_of
returns-clause-correlated c = refl
