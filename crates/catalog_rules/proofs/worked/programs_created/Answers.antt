use Rattle.std.proofs.Common.{refl}
use Rattle.catalog_rules.specs.Creating.{ddl_refusal}
use Rattle.catalog_rules.proofs.worked.programs_created.Goals as goal

pub returns-clause-taken : goal.returns-clause-taken
unfolding ddl_refusal
returns-clause-taken c = refl

pub returns-clause-other_kind : goal.returns-clause-other_kind
unfolding ddl_refusal
returns-clause-other_kind c = refl

pub returns-clause-commits : goal.returns-clause-commits
unfolding ddl_refusal
returns-clause-commits c = refl

pub returns-clause-unknown_first : goal.returns-clause-unknown_first
unfolding ddl_refusal
returns-clause-unknown_first c = refl

pub returns-clause-declared : goal.returns-clause-declared
unfolding ddl_refusal
returns-clause-declared c = refl

pub returns-clause-session_variable : goal.returns-clause-session_variable
unfolding ddl_refusal
returns-clause-session_variable c = refl

pub returns-clause-user_variable : goal.returns-clause-user_variable
unfolding ddl_refusal
returns-clause-user_variable c = refl

pub returns-clause-selects : goal.returns-clause-selects
unfolding ddl_refusal
returns-clause-selects c = refl

pub returns-clause-returns : goal.returns-clause-returns
unfolding ddl_refusal
returns-clause-returns c = refl

pub returns-clause-narrow : goal.returns-clause-narrow
unfolding ddl_refusal
returns-clause-narrow c = refl

pub returns-clause-no_table : goal.returns-clause-no_table
unfolding ddl_refusal
returns-clause-no_table c = refl

pub returns-clause-trigger_taken : goal.returns-clause-trigger_taken
unfolding ddl_refusal
returns-clause-trigger_taken c = refl

pub returns-clause-second_trigger : goal.returns-clause-second_trigger
unfolding ddl_refusal
returns-clause-second_trigger c = refl

pub returns-clause-writes_new : goal.returns-clause-writes_new
unfolding ddl_refusal
returns-clause-writes_new c = refl
