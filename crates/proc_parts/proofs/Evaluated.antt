-- Values of expressions.
use Rattle.std.proofs.Common.{◌≡◌, ◌≤◌, ℕ, true, List, [], Result, Ok, Err, refl, ap}
use Rattle.val_types.specs.declared.value.Value.{Value}
use Rattle.val_types.specs.declared.value.Value.TheVariants.{Null}
use Rattle.val_types.specs.declared.refusal.SqlRefusal.{SqlRefusal}
use Rattle.sql_tree.specs.Statement.{Statement, evaluate}
use Rattle.sql_locals.specs.declared.locals.Local.{Local}
use Rattle.name_const.specs.proc_model.Closing.{closing_refusal}
use Rattle.name_const.specs.proc_model.Talk.{Rules}
use Rattle.name_const.specs.proc_model.Procedures.{Held, Action, ◌>>=◌, pure, evaluate_with, first_value}
use Rattle.proc_parts.specs.declared.runner.RunRefusal.{RunRefusal}
use Rattle.proc_parts.specs.declared.world.World.{World}
use Rattle.proc_parts.specs.Calls.{EndsBy, Passes, expressions_of, is_do, widened, plainly}
use Rattle.proc_parts.specs.Parts.{values_at, value_at}
use Rattle.proc_parts.proofs.Behind.{onto_ends, onto_done, failed_ends, passed_onto, stopped_ends}

-- ---- values

do_is : (s : Statement) → is_do s ≡ true → s ≡ evaluate (expressions_of s)
do_is (evaluate ts) is = refl
do_is _ is = cc

module _ {S : Type 0} (rules : Rules S) (faults : S → ℕ) (w : World) (locals : List Local) where
  pub values_stopped : {A : Type 0} (view' : A → List Value) (s : Statement) (e : SqlRefusal) (held : Held) (here : S) → is_do s ≡ true
      → Passes (Err e) (closing_refusal s locals) → EndsBy rules faults view' (Err (widened e)) held here (values_at w locals s held) here
  unfolding values_at
  values_stopped view' s e held here is h =
      stopped_ends rules faults (closing_refusal (evaluate (expressions_of s)) locals) (λ _. evaluate_with w.nesting locals (expressions_of s)) view' e held here (rw (do_is s is) at h)

  pub values_end : {A : Type 0} (view' : A → List Value) (s : Statement) (u : Unit {0}) (r : Result A RunRefusal) (held held' : Held) (before after : S) → is_do s ≡ true
      → Passes (Ok u) (closing_refusal s locals) → EndsBy rules faults view' r held' before (evaluate_with w.nesting locals (expressions_of s) held) after
      → EndsBy rules faults view' r held' before (values_at w locals s held) after
  unfolding values_at
  values_end view' s u r held held' before after is h k =
      onto_ends rules faults view' r held' (evaluate_with w.nesting locals (expressions_of s) held) _ before before after
      (passed_onto rules faults (closing_refusal (evaluate (expressions_of s)) locals) (λ _. evaluate_with w.nesting locals (expressions_of s)) u held before (rw (do_is s is) at h)) k

  -- ---- one value

  first_behind : List Value → Action Value
  first_behind vs = pure (first_value vs)

  value_is : (s : Statement) (held : Held) → value_at w locals s held ≡ (values_at w locals s >>= first_behind) held
  unfolding value_at first_behind
  value_is s held = refl

  pub value_fails : {A B : Type 0} (view' : A → List Value) (other : B → Value) (s : Statement) (e : RunRefusal) (held held' : Held) (before after : S)
      → EndsBy rules faults view' (Err e) held' before (values_at w locals s held) after → EndsBy rules faults other (Err e) held' before (value_at w locals s held) after
  value_fails view' other s e held held' before after h =
      rw (value_is s held) (failed_ends rules faults (values_at w locals s) first_behind view' other e held held' before after h)

  pub value_done : (s : Statement) (vs : List Value) (v : Value) (held held' : Held) (before after : S)
      → EndsBy rules faults plainly (Ok vs) held' before (values_at w locals s held) after → v ≡ first_value vs → faults before ≤ faults after
      → EndsBy rules faults plainly (Ok v) held' before (value_at w locals s held) after
  unfolding first_behind
  value_done s vs v held held' before after h first later =
      rw (value_is s held) (onto_ends rules faults plainly (Ok v) held' (pure (first_value vs) held') _ after before after
      (onto_done rules faults (values_at w locals s) first_behind vs held held' before after later h) (rw first (refl, refl)))

pub ruleset evaluating = (values_stopped, values_end)

pub ruleset valuing = (value_fails, value_done)

-- ---- small ones

pub none_first : (vs : List Value) → vs ≡ [] → first_value vs ≡ Null
none_first vs is = ap first_value is

pub ruleset firsts = (none_first)
