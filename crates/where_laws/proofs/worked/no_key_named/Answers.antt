use Rattle.std.proofs.Common.{refl}
use Rattle.where_laws.proofs.worked.no_key_named.Goals as goal

pub returns-clause-either : goal.returns-clause-either
returns-clause-either c = refl

pub returns-clause-negated : goal.returns-clause-negated
returns-clause-negated c = refl

pub returns-clause-null : goal.returns-clause-null
returns-clause-null c = refl

pub returns-clause-a_text : goal.returns-clause-a_text
returns-clause-a_text c = refl

pub returns-clause-not_set : goal.returns-clause-not_set
returns-clause-not_set c = refl

pub returns-clause-other_column : goal.returns-clause-other_column
returns-clause-other_column c = refl

pub returns-clause-draws_first : goal.returns-clause-draws_first
returns-clause-draws_first c = refl

pub returns-clause-fails_first : goal.returns-clause-fails_first
returns-clause-fails_first c = refl
