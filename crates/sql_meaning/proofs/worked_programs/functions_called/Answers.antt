use Rattle.std.proofs.Common.{refl}
use Rattle.sql_meaning.specs.Running.{effect}
use Rattle.sql_meaning.specs.Running.{level_of}
use Rattle.log_entries.specs.catalog_rules.Checks.{statement_refusal}
use Rattle.log_entries.specs.catalog_rules.Checks.{expression_refusal}
use Rattle.sql_meaning.proofs.worked_programs.functions_called.Goals as goal

pub returns-clause-inserts : goal.returns-clause-inserts
unfolding effect level_of statement_refusal expression_refusal
returns-clause-inserts c = refl

pub returns-clause-row_stays : goal.returns-clause-row_stays
unfolding effect level_of statement_refusal expression_refusal
returns-clause-row_stays c = refl

pub returns-clause-own_table : goal.returns-clause-own_table
unfolding effect level_of statement_refusal expression_refusal
returns-clause-own_table c = refl

pub returns-clause-read_below : goal.returns-clause-read_below
unfolding effect level_of statement_refusal expression_refusal
returns-clause-read_below c = refl

pub returns-clause-variable : goal.returns-clause-variable
unfolding effect level_of statement_refusal expression_refusal
returns-clause-variable c = refl

pub returns-clause-without_return : goal.returns-clause-without_return
unfolding effect level_of statement_refusal expression_refusal
returns-clause-without_return c = refl

pub returns-clause-running : goal.returns-clause-running
unfolding effect level_of statement_refusal expression_refusal
returns-clause-running c = refl

pub returns-clause-too_large : goal.returns-clause-too_large
unfolding effect level_of statement_refusal expression_refusal
returns-clause-too_large c = refl

pub returns-clause-unknown_inside : goal.returns-clause-unknown_inside
unfolding effect level_of statement_refusal expression_refusal
returns-clause-unknown_inside c = refl
