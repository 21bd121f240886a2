-- SET, where it begins with all that a command has, as it answers.
use Rattle.std.proofs.Common.{◌≡◌, ℕ, List, zip, Option, Ok, Err, ap, subst}
use Rattle.val_types.specs.declared.value.Value.{Value}
use Rattle.val_types.specs.declared.refusal.SqlRefusal.TheVariants.{Sql}
use Rattle.answer_text.specs.declared.answer.Answer.{Answer}
use Rattle.answer_making.specs.log_entries.declared.entries.Item.{Item}
use Rattle.sql_tree.specs.Tree.{Trees}
use Rattle.sql_tree.specs.declared.statements.Target.{Target}
use Rattle.answer_making.specs.prog_work.declared.meter.Meter.{Meter}
use Rattle.session_statement.specs.proc_parts.Calls.{left_of}
use Rattle.answer_making.specs.session_model.Answers.{ok_warned, refused}
use Rattle.answer_making.specs.session_model.Sessions.{Session}
use Rattle.answer_making.specs.session_model.Running.{Call, Fuel, Given, fitted_run, full}
use Rattle.answer_making.specs.session_model.Commands.{all_assigned}
use Rattle.session_statement.specs.session_shared.Desk.{shared_of}
use Rattle.answer_making.specs.prog_work.Outcomes.{full_meter}
use Rattle.session_statement.specs.Turned.{EndsWith, IsTurn}
use Rattle.session_statement.specs.declared.keeping.Kept.{Kept}
use Rattle.session_statement.specs.session_shared.declared.desk.Desk.{Desk}
use Rattle.session_set.specs.Assigning.{set_from}
use Rattle.session_set.proofs.SetParts.{set_failed, set_values}

module _ (call : Call Item) (old new : Desk) (session after : Session Item) (start : Meter) (fuel : Fuel) (begins : start ≡ full_meter) (misfit : List Value → Option ℕ) where
  pub set_told : (names : List Target) (text said : List ℕ) (ts : Trees) (kept : Kept (List Value)) (answer : Answer) (later : Session Item) → said ≡ text
      → EndsWith (Ok kept) fuel old new after (fitted_run call (left_of start) said ts misfit (shared_of old) session) → answer ≡ ok_warned kept.warned 0 → later ≡ all_assigned after (zip names kept.value)
      → IsTurn old new later answer (set_from names (fitted_run call full text ts misfit (shared_of old) session))
  set_told names text said ts kept answer later same ends answered left =
      subst (λ (x : List ℕ). IsTurn old new later answer (set_from names (fitted_run call full x ts misfit (shared_of old) session))) same
      (subst (λ (m : Meter). IsTurn old new later answer (set_from names (fitted_run call (left_of m) said ts misfit (shared_of old) session))) begins
      (set_values names kept.value kept.warned old new after later answer (fitted_run call (left_of start) said ts misfit (shared_of old) session) ends.0
      (ap (λ (g : Given (List Value)). g.result) ends.1) (ap (λ (g : Given (List Value)). g.warned) ends.1) answered left))

  pub set_refused : (names : List Target) (text said : List ℕ) (ts : Trees) (code : ℕ) (answer : Answer) → said ≡ text
      → EndsWith {A = List Value} (Err (Sql code)) fuel old new after (fitted_run call (left_of start) said ts misfit (shared_of old) session) → answer ≡ refused code
      → IsTurn old new after answer (set_from names (fitted_run call full text ts misfit (shared_of old) session))
  set_refused names text said ts code answer same ends answered =
      subst (λ (x : List ℕ). IsTurn old new after answer (set_from names (fitted_run call full x ts misfit (shared_of old) session))) same
      (subst (λ (m : Meter). IsTurn old new after answer (set_from names (fitted_run call (left_of m) said ts misfit (shared_of old) session))) begins
      (set_failed names code old new after answer (fitted_run call (left_of start) said ts misfit (shared_of old) session) ends.0 (ap (λ (g : Given (List Value)). g.result) ends.1) answered))

pub ruleset setting = (set_told, set_refused)
