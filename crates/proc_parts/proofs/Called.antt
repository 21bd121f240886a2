-- CALL in a procedure.
use Rattle.std.proofs.Common.{◌≡◌, ◌≤◌, ℕ, List, [], ◌∷◌, Option, Some, None, Result, Ok, Err, refl}
use Rattle.val_types.specs.declared.value.Value.{Value}
use Rattle.val_types.specs.declared.refusal.SqlRefusal.{SqlRefusal}
use Rattle.sql_tree.specs.Tree.{Trees}
use Rattle.sql_tree.specs.View.{view_trees}
use Rattle.sql_tree.specs.Statement.{Statement, evaluate, call_procedure}
use Rattle.sql_tree.specs.declared.expressions.Expr.{Expr}
use Rattle.sql_locals.specs.declared.locals.Local.{Local}
use Rattle.name_const.specs.catalog_rules.Checks.{statement_refusal}
use Rattle.prog_run.specs.catalog.Answers.{Lets, answer_of}
use Rattle.name_const.specs.proc_model.Closing.{closing_refusal}
use Rattle.name_const.specs.proc_model.Talk.{Rules, Led}
use Rattle.name_const.specs.proc_model.Procedures.{Held, Action, done, pure, let_through, evaluate_with, scope_of, ◌>>=◌}
use Rattle.proc_parts.specs.declared.runner.RunRefusal.{RunRefusal}
use Rattle.proc_parts.specs.declared.world.World.{World}
use Rattle.proc_parts.specs.Calls.{EndsBy, Passes, always, expressions_of, plainly, widened, world_of}
use Rattle.proc_parts.specs.Parts.{arguments_at, step_at}
use Rattle.proc_parts.proofs.Behind.{Onto, onto_on, onto_ends, onto_done, failed_ends, passed_onto, stopped_ends}

-- ---- checks

lets_passes : (found : Option ℕ) → Passes (answer_of found) found
lets_passes None = refl
lets_passes (Some code) = refl

pub passes_so : (r : Result (Unit {0}) SqlRefusal) (found : Option ℕ) → Lets r found → Passes r found
passes_so r found h = rw h (lets_passes found)

pub ruleset checks = (passes_so)

-- ---- arguments

pub arguments_none : {S : Type 0} (rules : Rules S) (faults : S → ℕ) (w : World) (locals : List Local) (es : List Expr) (vs : List Value) (held : Held) (here : S) → es ≡ [] → vs ≡ []
    → EndsBy rules faults plainly (Ok vs) held here (arguments_at w locals (view_trees es) held) here
unfolding arguments_at
arguments_none rules faults w locals es vs held here none empty = rw (none, empty) (refl, refl)

pub arguments_some : {S : Type 0} (rules : Rules S) (faults : S → ℕ) (w : World) (locals : List Local) (es : List Expr) (q : Statement) (r : Result (List Value) RunRefusal) (held held' : Held) (before after : S)
    → (es ≡ [] → ⊥) → q ≡ evaluate (view_trees es) → EndsBy rules faults plainly r held' before (evaluate_with w.nesting locals (expressions_of q) held) after
    → EndsBy rules faults plainly r held' before (arguments_at w locals (view_trees es) held) after
unfolding arguments_at
arguments_some rules faults w locals [] q r held held' before after some is h = absurd (some refl)
arguments_some rules faults w locals (e ∷ rest) q r held held' before after some is h = rw is at h

pub ruleset arguments = (arguments_none)

-- ---- the steps of a CALL

module _ {S : Type 0} (rules : Rules S) (faults : S → ℕ) (w : World) (locals : List Local) (n : List ℕ) (ts : Trees) where
  behind_values : List Value → Action (List Local)
  behind_values vs = (world_of w).call n vs >>= λ _. pure locals

  behind_check : Unit {0} → Action (List Local)
  behind_check u = arguments_at w locals ts >>= behind_values

  behind_closing : Unit {0} → Action (List Local)
  behind_closing u = let_through (statement_refusal (world_of w).catalog (scope_of locals) (call_procedure n ts)) >>= behind_check

  call_is : (held : Held) → step_at w locals (call_procedure n ts) held ≡ (let_through (closing_refusal (evaluate ts) locals) >>= behind_closing) held
  unfolding step_at arguments_at behind_values behind_check behind_closing
  call_is held = refl

  pub call_unclosed : {B : Type 0} (other : B → List Local) (e : SqlRefusal) (held : Held) (here : S)
      → Passes (Err e) (closing_refusal (evaluate ts) locals) → EndsBy rules faults other (Err (widened e)) held here (step_at w locals (call_procedure n ts) held) here
  call_unclosed other e held here h = rw (call_is held) (stopped_ends rules faults (closing_refusal (evaluate ts) locals) behind_closing other e held here h)

  closed_onto : (u : Unit {0}) (held : Held) (here : S) → Passes (Ok u) (closing_refusal (evaluate ts) locals) → Onto rules faults (behind_closing tt held) here (step_at w locals (call_procedure n ts) held) here
  closed_onto u held here h = rw (call_is held) (passed_onto rules faults (closing_refusal (evaluate ts) locals) behind_closing u held here h)

  pub call_unchecked : {B : Type 0} (other : B → List Local) (u : Unit {0}) (e : SqlRefusal) (held : Held) (here : S)
      → Passes (Ok u) (closing_refusal (evaluate ts) locals) → Passes (Err e) (statement_refusal (world_of w).catalog (scope_of locals) (call_procedure n ts))
      → EndsBy rules faults other (Err (widened e)) held here (step_at w locals (call_procedure n ts) held) here
  unfolding behind_closing
  call_unchecked other u e held here h k =
      onto_ends rules faults other (Err (widened e)) held (behind_closing tt held) _ here here here (closed_onto u held here h)
      (stopped_ends rules faults (statement_refusal (world_of w).catalog (scope_of locals) (call_procedure n ts)) behind_check other e held here k)

  checked_onto : (u v : Unit {0}) (held : Held) (here : S) → Passes (Ok u) (closing_refusal (evaluate ts) locals) → Passes (Ok v) (statement_refusal (world_of w).catalog (scope_of locals) (call_procedure n ts))
      → Onto rules faults ((arguments_at w locals ts >>= behind_values) held) here (step_at w locals (call_procedure n ts) held) here
  unfolding behind_closing behind_check
  checked_onto u v held here h k =
      onto_on rules faults _ (behind_closing tt held) _ here here here
      (passed_onto rules faults (statement_refusal (world_of w).catalog (scope_of locals) (call_procedure n ts)) behind_check v held here k) (closed_onto u held here h)

  pub call_unvalued : {B : Type 0} (other : B → List Local) (u v : Unit {0}) (e : RunRefusal) (held held' : Held) (before after : S)
      → Passes (Ok u) (closing_refusal (evaluate ts) locals) → Passes (Ok v) (statement_refusal (world_of w).catalog (scope_of locals) (call_procedure n ts))
      → EndsBy {A = List Value} rules faults plainly (Err e) held' before (arguments_at w locals ts held) after
      → EndsBy rules faults other (Err e) held' before (step_at w locals (call_procedure n ts) held) after
  call_unvalued other u v e held held' before after h k f =
      onto_ends rules faults other (Err e) held' ((arguments_at w locals ts >>= behind_values) held) _ before before after (checked_onto u v held before h k)
      (failed_ends rules faults (arguments_at w locals ts) behind_values plainly other e held held' before after f)

  valued_onto : (u v : Unit {0}) (vs : List Value) (held held' : Held) (before mid : S)
      → Passes (Ok u) (closing_refusal (evaluate ts) locals) → Passes (Ok v) (statement_refusal (world_of w).catalog (scope_of locals) (call_procedure n ts))
      → Led rules (arguments_at w locals ts held) before (done vs held') mid → faults before ≤ faults mid
      → Onto rules faults (((world_of w).call n vs >>= λ _. pure locals) held') mid (step_at w locals (call_procedure n ts) held) before
  unfolding behind_values
  valued_onto u v vs held held' before mid h k f later =
      onto_on rules faults _ ((arguments_at w locals ts >>= behind_values) held) _ mid before before
      (onto_done rules faults (arguments_at w locals ts) behind_values vs held held' before mid later f) (checked_onto u v held before h k)

  pub call_ends : (u v : Unit {0}) (vs : List Value) (r : Result (Unit {0}) RunRefusal) (held held' held'' : Held) (before mid after : S)
      → Passes (Ok u) (closing_refusal (evaluate ts) locals) → Passes (Ok v) (statement_refusal (world_of w).catalog (scope_of locals) (call_procedure n ts))
      → EndsBy rules faults plainly (Ok vs) held' before (arguments_at w locals ts held) mid → faults before ≤ faults mid
      → EndsBy rules faults plainly r held'' mid ((world_of w).call n vs held') after → faults mid ≤ faults after
      → EndsBy rules faults (always locals) r held'' before (step_at w locals (call_procedure n ts) held) after
  call_ends u v vs (Ok x) held held' held'' before mid after h k f later g later' =
      (valued_onto u v vs held held' before mid h k f later).on (done locals held'') after
      ((onto_done rules faults ((world_of w).call n vs) (λ _. pure locals) x held' held'' mid after later' g).on (done locals held'') after (refl, refl))
  call_ends u v vs (Err e) held held' held'' before mid after h k f later g later' =
      onto_ends rules faults (always locals) (Err e) held'' (((world_of w).call n vs >>= λ _. pure locals) held') _ mid before after (valued_onto u v vs held held' before mid h k f later)
      (failed_ends rules faults ((world_of w).call n vs) (λ _. pure locals) plainly (always locals) e held' held'' mid after g)

pub ruleset calling = (call_unclosed, call_unchecked, call_unvalued)
