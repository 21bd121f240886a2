-- What a CALL leaves says itself: what its procedure runs and evaluates, with locals closed in, and the DO over its arguments.
use Rattle.std.proofs.Common.{◌≡◌, ◌≤◌, ℕ, true, List, Option, Some, None, Result, Ok, Err, refl, ◌∙◌}
use Rattle.std.specs.Option.{option_map}
use Rattle.std.specs.List.{list_all}
use Rattle.val_types.specs.declared.value.Value.{Value}
use Rattle.port_traits.specs.declared.identity.Identity.{Identity}
use Rattle.port_traits.specs.declared.identity.Draw.{Draw}
use Rattle.sql_tree.specs.Statement.{Statement, evaluate}
use Rattle.sql_tree.specs.Tree.{Trees}
use Rattle.sql_locals.specs.declared.locals.Local.{Local}
use Rattle.sql_print.specs.StatementSpelling.{spelling}
use Rattle.name_const_laws.specs.catalog_rules.Checks.{session_scope, statement_refusal}
use Rattle.name_const_laws.specs.sql_meaning.Changing.{Did}
use Rattle.name_const_laws.specs.sql_meaning.Running.{most_turns}
use Rattle.name_const_laws.specs.sql_reach.Closing.{closed}
use Rattle.session_model.specs.proc_model.Talk.{Left, Refusal, Told}
use Rattle.session_model.specs.proc_model.Procedures.{plain_refusal, scope_of, called}
use Rattle.session_model.specs.Running.{Call, Turn, Given, items_of, lock_check, statement_run, values_run}
use Rattle.session_model.specs.Calling.{Reached, reached_by, first_check, step_check, unless_checked, counted_by, with_counted, run_step, evaluate_step, steps_of, left_with, called_by}
use Rattle.session_model.specs.Machine.{Whole, whole}
use Rattle.session_replays.specs.Bodies.{has_well_body}
use Rattle.session_replays.specs.Sizes.{has_sizes}
use Rattle.session_replays.specs.Texts.{AllSay, EntriesSay}
use Rattle.session_replays.proofs.Closing.{ClosingLaws}
use Rattle.session_replays.proofs.Locals.{Any, such, talk_keeps_where, called_only}
use Rattle.session_replays.proofs.Saying.{Leaves, ended_leaves, say_behind}
use Rattle.session_replays.proofs.Spending.{left_within, Spend, statement_turns, values_turns, told_turns}

-- where the first of two checks lets through
first_none : (code : Option ℕ) (next : Option Refusal) → first_check (option_map plain_refusal code) next ≡ None → code ≡ None
first_none None next e = refl
first_none (Some code) next e = cc

step_leaves : {A : Type 0} (refusal : Option Refusal) (left : Left) (at : Reached Whole) (next : Told A × Reached Whole) → Leaves at → (refusal ≡ None → Leaves next.1)
    → Leaves (unless_checked refusal left at next).1
step_leaves None left at next k l = l refl
step_leaves (Some refusal) left at next k l = k

reached_leaves : {A : Type 0} (at : Reached Whole) (t : Turn Whole (Given A)) → Leaves at → Leaves t → Leaves (reached_by at t)
reached_leaves at t k l = (say_behind at.committed t.committed k.0 l.0, l.1)

counted_leaves : (r : Result Did ℕ) (t : Turn Whole (Given Did)) → Leaves t → EntriesSay t.committed × AllSay (items_of (counted_by r t.session).transaction)
counted_leaves (Ok did) t l = l
counted_leaves (Err code) t l = l

module _ (identity : Identity) (draw : Draw) (number : ℕ) (laws : ClosingLaws) (spend : Spend) where
  abbrev call : Call Whole
  call = record { identity = identity; draw = draw; number = number; known = whole }

  run_leaves : (left : Left) (s : Statement) (at : Reached Whole) → such.run left s → Leaves at → Leaves (run_step call left s at).1 × ((run_step call left s at).0.turns ≤ left.turns)
  run_leaves left s at asked k =
      let t : Turn Whole (Given Did) = statement_run call left (spelling s) s at.shared at.session in (
        step_leaves (step_check number session_scope s at.shared) left at _ k (λ e.
            reached_leaves at (with_counted t) k
            (counted_leaves t.given.result t
            (ended_leaves (spelling s) s at.shared asked.1.text asked.1.short asked.1.stands
            (first_none (statement_refusal at.shared.base.catalog session_scope s) (lock_check number at.shared s) e) call refl left at.session
            (λ (did : Did). did.first) (λ (did : Did). did.last_id) _ k.1))),
        told_turns (step_check number session_scope s at.shared) left at _ (statement_turns spend call left (spelling s) s at.shared at.session),
      )

  evaluate_leaves : (left : Left) (locals : List Local) (ts : Trees) (at : Reached Whole) → such.give left locals ts → Leaves at
      → Leaves (evaluate_step call left locals ts at).1 × ((evaluate_step call left locals ts at).0.turns ≤ left.turns)
  evaluate_leaves left locals ts at asked k =
      let item : Statement = closed (evaluate ts) locals in
      let said = asked.2.said in
      let t : Turn Whole (Given (List Value)) = values_run call left (spelling item) item locals ts at.shared at.session in (
        step_leaves (step_check number (scope_of locals) (evaluate ts) at.shared) left at _ k (λ e.
            reached_leaves at t k
            (ended_leaves (spelling item) item at.shared said.text said.short said.stands
            (laws.allowed at.shared.base.catalog locals (evaluate ts) refl asked.2.limits
            ∙ first_none (statement_refusal at.shared.base.catalog (scope_of locals) (evaluate ts)) (lock_check number at.shared (evaluate ts)) e) call refl left at.session
            (λ (vs : List Value). None) (λ (vs : List Value). None) _ k.1)),
        told_turns (step_check number (scope_of locals) (evaluate ts) at.shared) left at _ (values_turns spend call left (spelling item) item locals ts at.shared at.session),
      )

  pub called_leaves : (name : List ℕ) (r : Result (List Value) ℕ) (t : Turn Whole (Given (List Value))) → list_all has_sizes t.shared.base.catalog ≡ true → list_all has_well_body t.shared.base.catalog ≡ true
      → t.given.fuel.turns ≤ most_turns → Leaves t → Leaves (called_by call name r t)
  called_leaves name (Err code) t sized bodies low l = l
  called_leaves name (Ok vs) t sized bodies low l =
      talk_keeps_where (steps_of call) (λ (at : Reached Whole). Leaves at) such Any run_leaves evaluate_leaves (λ n v at k. k)
      (called t.shared.base.catalog (left_with t.given.fuel) name vs) (record { shared = t.shared; session = t.session; committed = t.committed; given = t.given.warned })
      (called_only laws t.shared.base.catalog sized bodies (left_with t.given.fuel) (left_within t.given.fuel low) name vs) l
