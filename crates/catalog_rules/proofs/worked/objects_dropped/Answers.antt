use Rattle.std.proofs.Common.{refl}
use Rattle.catalog_rules.specs.Creating.{ddl_refusal}
use Rattle.catalog_rules.proofs.worked.objects_dropped.Goals as goal

pub returns-clause-absent : goal.returns-clause-absent
unfolding ddl_refusal
returns-clause-absent c = refl

pub returns-clause-there : goal.returns-clause-there
unfolding ddl_refusal
returns-clause-there c = refl
