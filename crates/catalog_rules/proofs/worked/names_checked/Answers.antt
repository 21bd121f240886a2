use Rattle.std.proofs.Common.{refl}
use Rattle.catalog_rules.specs.Checks.{statement_refusal}
use Rattle.catalog_rules.proofs.worked.names_checked.Goals as goal

pub returns-clause-no_table : goal.returns-clause-no_table
unfolding statement_refusal
returns-clause-no_table c = refl

pub returns-clause-columns : goal.returns-clause-columns
unfolding statement_refusal
returns-clause-columns c = refl

pub returns-clause-outer : goal.returns-clause-outer
unfolding statement_refusal
returns-clause-outer c = refl

pub returns-clause-in_values : goal.returns-clause-in_values
unfolding statement_refusal
returns-clause-in_values c = refl

pub returns-clause-new_row : goal.returns-clause-new_row
unfolding statement_refusal
returns-clause-new_row c = refl

pub returns-clause-calls : goal.returns-clause-calls
unfolding statement_refusal
returns-clause-calls c = refl

pub returns-clause-variables : goal.returns-clause-variables
unfolding statement_refusal
returns-clause-variables c = refl

pub returns-clause-limit : goal.returns-clause-limit
unfolding statement_refusal
returns-clause-limit c = refl

pub returns-clause-twice : goal.returns-clause-twice
unfolding statement_refusal
returns-clause-twice c = refl

pub returns-clause-widths : goal.returns-clause-widths
unfolding statement_refusal
returns-clause-widths c = refl

pub returns-clause-own_table : goal.returns-clause-own_table
unfolding statement_refusal
returns-clause-own_table c = refl

pub returns-clause-left_out : goal.returns-clause-left_out
unfolding statement_refusal
returns-clause-left_out c = refl

pub returns-clause-together : goal.returns-clause-together
unfolding statement_refusal
returns-clause-together c = refl
