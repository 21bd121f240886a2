use Rattle.std.proofs.Common.{refl}
use Rattle.catalog_rules.specs.Creating.{ddl_refusal}
use Rattle.catalog_rules.proofs.worked.tables_created.Goals as goal

pub returns-clause-made : goal.returns-clause-made
unfolding ddl_refusal
returns-clause-made c = refl

pub returns-clause-beside : goal.returns-clause-beside
unfolding ddl_refusal
returns-clause-beside c = refl

pub returns-clause-taken : goal.returns-clause-taken
unfolding ddl_refusal
returns-clause-taken c = refl

pub returns-clause-twice : goal.returns-clause-twice
unfolding ddl_refusal
returns-clause-twice c = refl

pub returns-clause-key_twice : goal.returns-clause-key_twice
unfolding ddl_refusal
returns-clause-key_twice c = refl

pub returns-clause-key_name : goal.returns-clause-key_name
unfolding ddl_refusal
returns-clause-key_name c = refl

pub returns-clause-key_column : goal.returns-clause-key_column
unfolding ddl_refusal
returns-clause-key_column c = refl

pub returns-clause-no_key : goal.returns-clause-no_key
unfolding ddl_refusal
returns-clause-no_key c = refl

pub returns-clause-preset_text : goal.returns-clause-preset_text
unfolding ddl_refusal
returns-clause-preset_text c = refl

pub returns-clause-preset_null : goal.returns-clause-preset_null
unfolding ddl_refusal
returns-clause-preset_null c = refl

pub returns-clause-preset_counted : goal.returns-clause-preset_counted
unfolding ddl_refusal
returns-clause-preset_counted c = refl

pub returns-clause-counted_text : goal.returns-clause-counted_text
unfolding ddl_refusal
returns-clause-counted_text c = refl

pub returns-clause-two_counted : goal.returns-clause-two_counted
unfolding ddl_refusal
returns-clause-two_counted c = refl

pub returns-clause-not_first : goal.returns-clause-not_first
unfolding ddl_refusal
returns-clause-not_first c = refl

pub returns-clause-wide : goal.returns-clause-wide
unfolding ddl_refusal
returns-clause-wide c = refl

pub returns-clause-just_wide : goal.returns-clause-just_wide
unfolding ddl_refusal
returns-clause-just_wide c = refl

pub returns-clause-nothing_wide : goal.returns-clause-nothing_wide
unfolding ddl_refusal
returns-clause-nothing_wide c = refl
