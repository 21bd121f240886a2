use Rattle.std.proofs.Common.{refl}
use Rattle.std.specs.Fmt.{digits}
use Rattle.sql_reach.specs.catalog_rules.Checks.{statement_refusal}
use Rattle.sql_reach.specs.Closing.{closed}
use Rattle.proc_model.specs.Closing.{closing_refusal}
use Rattle.proc_model.specs.Procedures.{call_at, called}
use Rattle.proc_model.proofs.worked.errors_end_a_call.Goals as goal

pub returns-clause-counted : goal.returns-clause-counted
unfolding digits called call_at closing_refusal closed statement_refusal
returns-clause-counted c = refl

pub returns-clause-third : goal.returns-clause-third
unfolding digits called call_at closing_refusal closed statement_refusal
returns-clause-third c = refl

pub returns-clause-no_fourth : goal.returns-clause-no_fourth
unfolding digits called call_at closing_refusal closed statement_refusal
returns-clause-no_fourth c = refl

pub returns-clause-none_assigned : goal.returns-clause-none_assigned
unfolding digits called call_at closing_refusal closed statement_refusal
returns-clause-none_assigned c = refl

pub returns-clause-misfit : goal.returns-clause-misfit
unfolding digits called call_at closing_refusal closed statement_refusal
returns-clause-misfit c = refl

pub returns-clause-assigned : goal.returns-clause-assigned
unfolding digits called call_at closing_refusal closed statement_refusal
returns-clause-assigned c = refl
