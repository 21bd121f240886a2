use Rattle.std.proofs.Common.{refl}
use Rattle.catalog_rules.specs.Creating.{ddl_refusal}
use Rattle.catalog_rules.proofs.worked.bases_made.Goals as goal

pub returns-clause-made : goal.returns-clause-made
unfolding ddl_refusal
returns-clause-made c = refl

pub returns-clause-dropped : goal.returns-clause-dropped
unfolding ddl_refusal
returns-clause-dropped c = refl

pub returns-clause-refused : goal.returns-clause-refused
unfolding ddl_refusal
returns-clause-refused c = refl

pub returns-clause-cleared : goal.returns-clause-cleared
unfolding ddl_refusal
returns-clause-cleared c = refl

pub returns-clause-in_order : goal.returns-clause-in_order
unfolding ddl_refusal
returns-clause-in_order c = (refl, (refl, (refl, (refl, (refl, tt)))))
