use Rattle.std.proofs.Common.{refl}
use Rattle.sql_meaning.specs.Running.{effect}
use Rattle.sql_meaning.specs.Running.{level_of}
use Rattle.sql_meaning.proofs.worked.rows_changed.Goals as goal

pub returns-clause-in_turn : goal.returns-clause-in_turn
unfolding effect level_of
returns-clause-in_turn c = refl

pub returns-clause-taken : goal.returns-clause-taken
unfolding effect level_of
returns-clause-taken c = refl

pub returns-clause-deleted : goal.returns-clause-deleted
unfolding effect level_of
returns-clause-deleted c = refl
