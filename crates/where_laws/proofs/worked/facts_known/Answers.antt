use Rattle.std.proofs.Common.{refl}
use Rattle.where_laws.proofs.worked.facts_known.Goals as goal

pub returns-clause-range : goal.returns-clause-range
returns-clause-range c = refl

pub returns-clause-quiet_first : goal.returns-clause-quiet_first
returns-clause-quiet_first c = refl

pub returns-clause-nullable_first : goal.returns-clause-nullable_first
returns-clause-nullable_first c = refl

pub returns-clause-nullable_before : goal.returns-clause-nullable_before
returns-clause-nullable_before c = refl

pub returns-clause-whole : goal.returns-clause-whole
returns-clause-whole c = refl

pub returns-clause-unique : goal.returns-clause-unique
returns-clause-unique c = refl

pub returns-clause-not_whole : goal.returns-clause-not_whole
returns-clause-not_whole c = refl
