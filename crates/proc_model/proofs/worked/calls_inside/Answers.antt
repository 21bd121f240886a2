use Rattle.std.proofs.Common.{refl}
use Rattle.std.specs.Fmt.{digits}
use Rattle.sql_reach.specs.catalog_rules.Checks.{statement_refusal}
use Rattle.sql_reach.specs.Closing.{closed}
use Rattle.proc_model.specs.Closing.{closing_refusal}
use Rattle.proc_model.specs.Procedures.{call_at, called}
use Rattle.proc_model.proofs.worked.calls_inside.Goals as goal

pub returns-clause-running : goal.returns-clause-running
unfolding digits called call_at closing_refusal closed statement_refusal
returns-clause-running c = refl

pub returns-clause-unknown : goal.returns-clause-unknown
unfolding digits called call_at closing_refusal closed statement_refusal
returns-clause-unknown c = refl

pub returns-clause-unasked : goal.returns-clause-unasked
unfolding digits called call_at closing_refusal closed statement_refusal
returns-clause-unasked c = refl

pub returns-clause-miscounted : goal.returns-clause-miscounted
unfolding digits called call_at closing_refusal closed statement_refusal
returns-clause-miscounted c = refl

pub returns-clause-fitted : goal.returns-clause-fitted
unfolding digits called call_at closing_refusal closed statement_refusal
returns-clause-fitted c = refl

pub returns-clause-summed : goal.returns-clause-summed
unfolding digits called call_at closing_refusal closed statement_refusal
returns-clause-summed c = refl
