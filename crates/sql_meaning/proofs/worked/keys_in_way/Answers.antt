use Rattle.std.proofs.Common.{refl}
use Rattle.sql_meaning.specs.Running.{effect}
use Rattle.sql_meaning.specs.Running.{level_of}
use Rattle.sql_meaning.proofs.worked.keys_in_way.Goals as goal

pub returns-clause-refused : goal.returns-clause-refused
unfolding effect level_of
returns-clause-refused c = refl

pub returns-clause-ignored : goal.returns-clause-ignored
unfolding effect level_of
returns-clause-ignored c = refl

pub returns-clause-unchanged : goal.returns-clause-unchanged
unfolding effect level_of
returns-clause-unchanged c = refl

pub returns-clause-updated : goal.returns-clause-updated
unfolding effect level_of
returns-clause-updated c = refl

pub returns-clause-replaced : goal.returns-clause-replaced
unfolding effect level_of
returns-clause-replaced c = refl

pub returns-clause-both_replaced : goal.returns-clause-both_replaced
unfolding effect level_of
returns-clause-both_replaced c = refl

pub returns-clause-not_null : goal.returns-clause-not_null
unfolding effect level_of
returns-clause-not_null c = refl
