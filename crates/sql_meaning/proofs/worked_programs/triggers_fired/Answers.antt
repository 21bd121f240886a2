use Rattle.std.proofs.Common.{refl}
use Rattle.sql_meaning.specs.Running.{effect}
use Rattle.sql_meaning.specs.Running.{level_of}
use Rattle.log_entries.specs.catalog_rules.Checks.{statement_refusal}
use Rattle.log_entries.specs.catalog_rules.Checks.{expression_refusal}
use Rattle.sql_meaning.proofs.worked_programs.triggers_fired.Goals as goal

pub returns-clause-noted : goal.returns-clause-noted
unfolding effect level_of statement_refusal expression_refusal
returns-clause-noted c = refl

pub returns-clause-all_back : goal.returns-clause-all_back
unfolding effect level_of statement_refusal expression_refusal
returns-clause-all_back c = refl

pub returns-clause-new_written : goal.returns-clause-new_written
unfolding effect level_of statement_refusal expression_refusal
returns-clause-new_written c = refl

pub returns-clause-own_table : goal.returns-clause-own_table
unfolding effect level_of statement_refusal expression_refusal
returns-clause-own_table c = refl

pub returns-clause-misfit : goal.returns-clause-misfit
unfolding effect level_of statement_refusal expression_refusal
returns-clause-misfit c = refl
