-- What is left to the statements of a command is never more than a command has.
use Rattle.std.proofs.Common.{◌≡◌, ◌≤◌, Bool, true, false, List, [], ◌∷◌, ℕ, ℤ, Option, Some, None, refl, sym, subst, cond}
use Rattle.std.proofs.Math.Nat.{le_refl}
use Rattle.val_types.specs.declared.change.Change.{Change}
use Rattle.val_types.specs.declared.value.Value.{Value}
use Rattle.sql_tree.specs.Tree.{Trees, no_tree, tree}
use Rattle.sql_tree.specs.Statement.{Statement, evaluate}
use Rattle.sql_locals.specs.declared.locals.Local.{Local}
use Rattle.name_const_laws.specs.sql_meaning.Scenes.{Scene, Ending, done, failed}
use Rattle.name_const_laws.specs.sql_meaning.Changing.{Did}
use Rattle.name_const_laws.specs.sql_meaning.Leading.{scene_after}
use Rattle.name_const_laws.specs.sql_meaning.Running.{most_nested, most_turns, effect, evaluation, context_after}
use Rattle.name_const_laws.specs.sql_meaning.Turns.{StatementsSpendTurns, EvaluationsSpendTurns}
use Rattle.name_const_laws.specs.sql_reach.Defining.{number_of_bytes}
use Rattle.session_model.specs.proc_model.Talk.{Left, Refusal, Told}
use Rattle.session_model.specs.Sessions.{Session, Shared}
use Rattle.session_model.specs.Running.{Call, Turn, Given, Fuel, full, is_other, keep, takes_too_much, made_behind, with_counters, with_context, undone, item_of, settle, ended, given_by, is_warned, scene_for, setting_of, statement_run, values_run}
use Rattle.session_model.specs.Calling.{Reached, unless_checked, arguments_run, left_with}
use Rattle.session_model.specs.Machine.{Whole}

-- What is left is no more than a command has.
pub record IsWithin (left : Left) : Type 0 where
  pub nesting : left.nesting ≤ most_nested
  pub turns : left.turns ≤ most_turns

pub full_within : IsWithin full
full_within = record { nesting = le_refl most_nested; turns = le_refl most_turns }

pub left_within : (fuel : Fuel) → fuel.turns ≤ most_turns → IsWithin (left_with fuel)
left_within fuel low = record { nesting = le_refl most_nested; turns = low }

-- statements and evaluations give no turn back
pub record Spend : Type 0 where
  pub statements : StatementsSpendTurns
  pub evaluations : EvaluationsSpendTurns

settle_turns : {A : Type 0} (call : Call Whole) (item : List Change → Whole) (made : List Change) (scene : Scene) (shared : Shared) (session : Session Whole) (given : Given A) (refusal : Turn Whole (Given A))
    → given.fuel.turns ≡ scene.turns → refusal.given.fuel.turns ≡ scene.turns → (settle call item made scene shared session given refusal).given.fuel.turns ≡ scene.turns
settle_turns call item [] scene shared session given refusal g r = g
settle_turns {A = A} call item (c ∷ cs) scene shared session given refusal g r = by (takes_too_much call session.transaction (item (c ∷ cs)))
  where
    turn : Bool → Turn Whole (Given A)
    turn b = cond b refusal (keep call (item (c ∷ cs)) scene shared session given)

    by : (b : Bool) → (turn b).given.fuel.turns ≡ scene.turns
    by true = r
    by false = g

-- the turns that are told behind a statement are those of the scene that it left
ended_turns : {A : Type 0} (call : Call Whole) (left : Left) (text : List ℕ) (item : Statement) (shared : Shared) (session : Session Whole) (first last_id : A → Option ℤ) (before : Scene) (e : Ending A)
    → (ended call left text item shared session first last_id before e).given.fuel.turns ≡ (scene_after e).turns
ended_turns call left text item shared session first last_id before (done a scene) =
    let made = made_behind (is_other call.number shared.writer) before scene in
    settle_turns call (item_of call session.format left text item session.vars.context shared (first a)) made scene (with_counters scene shared)
    (with_context (context_after session.vars.context item scene.seeds (last_id a)) session) (given_by a scene (is_warned session.format shared.base.catalog item made)) (undone 1197 item shared session scene) refl refl
ended_turns call left text item shared session first last_id before (failed code scene) = refl

module _ (spend : Spend) (call : Call Whole) where
  pub statement_turns : (left : Left) (text : List ℕ) (s : Statement) (shared : Shared) (session : Session Whole) → (statement_run call left text s shared session).given.fuel.turns ≤ left.turns
  statement_turns left text s shared session =
      let before = scene_for call.number left session.vars.context shared in
      let setting = setting_of shared.base.catalog session.vars.context (number_of_bytes 0 call.draw.uuid) in
      subst (λ (n : ℕ). n ≤ left.turns) (sym (ended_turns call left text s shared session (λ (did : Did). did.first) (λ (did : Did). did.last_id) before (effect setting left.nesting [] s before)))
      (spend.statements setting left.nesting [] s before)

  pub values_turns : (left : Left) (text : List ℕ) (item : Statement) (locals : List Local) (ts : Trees) (shared : Shared) (session : Session Whole)
      → (values_run call left text item locals ts shared session).given.fuel.turns ≤ left.turns
  values_turns left text item locals ts shared session =
      let before = scene_for call.number left session.vars.context shared in
      let setting = setting_of shared.base.catalog session.vars.context (number_of_bytes 0 call.draw.uuid) in
      subst (λ (n : ℕ). n ≤ left.turns) (sym (ended_turns {A = List Value} call left text item shared session (λ vs. None) (λ vs. None) before (evaluation setting left.nesting locals ts before)))
      (spend.evaluations setting left.nesting locals ts before)

  pub arguments_turns : (text : List ℕ) (ts : Trees) (shared : Shared) (session : Session Whole) → (arguments_run call text ts shared session).given.fuel.turns ≤ most_turns
  arguments_turns text no_tree shared session = le_refl most_turns
  arguments_turns text (tree t ts) shared session = values_turns full text (evaluate (tree t ts)) [] (tree t ts) shared session

-- so it is with what is told of a statement that a check refused
pub told_turns : {A : Type 0} (refusal : Option Refusal) (left : Left) (at : Reached Whole) (next : Told A × Reached Whole) → next.0.turns ≤ left.turns → (unless_checked refusal left at next).0.turns ≤ left.turns
told_turns None left at next low = low
told_turns (Some refusal) left at next low = le_refl left.turns
