use Rattle.std.proofs.Common.{refl}
use Rattle.std.specs.Fmt.{digits}
use Rattle.sql_reach.specs.catalog_rules.Checks.{statement_refusal}
use Rattle.sql_reach.specs.Closing.{closed}
use Rattle.proc_model.specs.Closing.{closing_refusal}
use Rattle.proc_model.specs.Procedures.{call_at, called}
use Rattle.proc_model.proofs.worked.loops_and_locals.Goals as goal

pub returns-clause-three_turns : goal.returns-clause-three_turns
unfolding digits called call_at closing_refusal closed statement_refusal
returns-clause-three_turns c = refl

pub returns-clause-spent : goal.returns-clause-spent
unfolding digits called call_at closing_refusal closed statement_refusal
returns-clause-spent c = refl

pub returns-clause-asked : goal.returns-clause-asked
unfolding digits called call_at closing_refusal closed statement_refusal
returns-clause-asked c = refl

pub returns-clause-closed_in : goal.returns-clause-closed_in
unfolding digits called call_at closing_refusal closed statement_refusal
returns-clause-closed_in c = refl

pub returns-clause-sets_stay : goal.returns-clause-sets_stay
unfolding digits called call_at closing_refusal closed statement_refusal
returns-clause-sets_stay c = refl

pub returns-clause-no_turn_left : goal.returns-clause-no_turn_left
unfolding digits called call_at closing_refusal closed statement_refusal
returns-clause-no_turn_left c = refl
