use Rattle.std.proofs.Common.{refl}
use Rattle.sql_meaning.specs.Running.{effect}
use Rattle.sql_meaning.specs.Running.{level_of}
use Rattle.log_entries.specs.catalog_rules.Checks.{statement_refusal}
use Rattle.log_entries.specs.catalog_rules.Checks.{expression_refusal}
use Rattle.sql_meaning.proofs.worked_programs.nesting_and_turns.Goals as goal

pub returns-clause-one_level : goal.returns-clause-one_level
unfolding effect level_of statement_refusal expression_refusal
returns-clause-one_level c = refl

pub returns-clause-too_deep : goal.returns-clause-too_deep
unfolding effect level_of statement_refusal expression_refusal
returns-clause-too_deep c = refl

pub returns-clause-counted : goal.returns-clause-counted
unfolding effect level_of statement_refusal expression_refusal
returns-clause-counted c = refl

pub returns-clause-spent : goal.returns-clause-spent
unfolding effect level_of statement_refusal expression_refusal
returns-clause-spent c = refl

pub returns-clause-last_turn : goal.returns-clause-last_turn
unfolding effect level_of statement_refusal expression_refusal
returns-clause-last_turn c = refl

pub returns-clause-one_more : goal.returns-clause-one_more
unfolding effect level_of statement_refusal expression_refusal
returns-clause-one_more c = refl
