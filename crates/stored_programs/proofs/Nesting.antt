-- Calls and events at a level of nesting.
use Rattle.std.proofs.Common.{◌≡◌, ◌<◌, ◌-◌, ◌==◌, ℕ, zero, suc, List, Bool, true, false, Option, Some, None, length, refl, sym, ap, ◌∙◌, rules, Result, arith}
use Rattle.std.specs.Borrow.{Bor}
use Rattle.val_types.specs.declared.value.Value.{Value}
use Rattle.val_types.specs.declared.refusal.SqlRefusal.{SqlRefusal}
use Rattle.val_types.specs.declared.definitions.TableDef.{TableDef}
use Rattle.sql_tree.specs.Statement.{Program, Trigger}
use Rattle.sql_tree.specs.StatementView.{view_program}
use Rattle.sql_tree.specs.declared.statements.Routine.{Routine, out-Routine}
use Rattle.stored_programs.proofs.Calling.{program_of_out}
use Rattle.sql_tree.specs.declared.statements.Time.{Time}
use Rattle.sql_tree.specs.declared.statements.Cause.{Cause}
use Rattle.sql_statements.specs.catalog_objects.Keys.{objects_of}
use Rattle.sql_statements.specs.catalog_rules.Names.{is_among}
use Rattle.sql_statements.specs.catalog_rules.Objects.{function_in, parameters_of, trigger_for}
use Rattle.sql_statements.specs.sql_meaning.Scenes.{Scene, Action, done, failed, then_do, pure, fail, needed}
use Rattle.sql_statements.specs.sql_meaning.Frames.{Setting, Running, Below, World}
use Rattle.sql_statements.specs.sql_meaning.Running.{call_function, fire_trigger, function_body, in_function, level_of, run_trigger, start_function}
use Rattle.exec_state.specs.Stage.{EndsAs, EndsAsBy}
use Rattle.exec_state.specs.declared.running.Running.{Running as Chain, Function, the_lemmas}
use Rattle.exec_state.specs.UnderWay.{under_way}
use Rattle.sql_evaluation.specs.declared.world.Around.{Around}
use Rattle.sql_evaluation.specs.Seen.{running_of, setting_of, world_of}
use Rattle.sql_statements.specs.changed_rows.Firing.{left_of}
use Rattle.stored_programs.specs.Steps.{triggered_in}
use Rattle.stored_programs.proofs.Acting.{ends_so, ends_so_by}

pub function_inside : (name : Bor (List ℕ)) (outer : Bor Chain) → under_way (Function name outer) ≡ in_function name.now (under_way outer.now)
function_inside name outer = search (rules, the_lemmas)

-- ---- calls

-- the level below one
abbrev lower : Setting → ℕ → Option Below
lower setting zero = None
lower setting (suc n) = Some (level_of setting n)

level_calls : (setting : Setting) (n : ℕ) → (level_of setting n).call ≡ call_function setting (lower setting n)
unfolding level_of
level_calls setting zero = refl
level_calls setting (suc n) = refl

level_fires : (setting : Setting) (n : ℕ) → (level_of setting n).fire ≡ fire_trigger setting (lower setting n)
unfolding level_of
level_fires setting zero = refl
level_fires setting (suc n) = refl

below_call : (a : Around) → (world_of a).below.call ≡ call_function (setting_of a) (lower (setting_of a) a.nesting)
unfolding world_of
below_call a = level_calls (setting_of a) a.nesting

below_fire : (a : Around) → (world_of a).below.fire ≡ fire_trigger (setting_of a) (lower (setting_of a) a.nesting)
unfolding world_of
below_fire a = level_fires (setting_of a) a.nesting

starts : (a : Around) (running : Running) (name : List ℕ) (vs : List Value) (scene : Scene) (o : Option Program) → o ≡ function_in (objects_of a.catalog.now) name
    → (world_of a).below.call running name vs scene
    ≡ then_do (needed 1305 o scene) (start_function (setting_of a) (lower (setting_of a) a.nesting) running name vs)
starts a running name vs scene o is =
    ap (λ (call : Running → List ℕ → List Value → Action Value). call running name vs scene) (below_call a)
    ∙ ap (λ (p : Option Program). then_do (needed 1305 p scene) (start_function (setting_of a) (lower (setting_of a) a.nesting) running name vs)) (sym is)

pub call_absent : (a : Around) (running : Running) (name : List ℕ) (vs : List Value) (scene : Scene) → None ≡ function_in (objects_of a.catalog.now) name
    → (world_of a).below.call running name vs scene ≡ failed 1305 scene
call_absent a running name vs scene is = starts a running name vs scene None is

-- as many arguments as parameters, or not
pub counted_is : (r : Routine) (vs : List Value) (n m : ℕ) (b : Bool) → n ≡ length (out-Routine r).parameters → m ≡ length vs → (n == m) ≡ b → (length (parameters_of (view_program r)) == length vs) ≡ b
counted_is r vs n m b e f t =
    let seen : (length (parameters_of (view_program r)) == length vs) ≡ (length (out-Routine r).parameters == length vs) = ap (λ (p : Program). (length (parameters_of p) == length vs)) (program_of_out r) in
    let same : (length (out-Routine r).parameters == length vs) ≡ (n == m) = λ i. ((sym e) i == (sym f) i) in
    seen ∙ same ∙ t

pub call_miscounted : (a : Around) (running : Running) (name : List ℕ) (vs : List Value) (p : Program) (scene : Scene) → Some p ≡ function_in (objects_of a.catalog.now) name
    → (length (parameters_of p) == length vs) ≡ false → (world_of a).below.call running name vs scene ≡ failed 1318 scene
call_miscounted a running name vs p scene is counted = starts a running name vs scene (Some p) is ∙ (rw counted refl)

pub call_under_way : (a : Around) (running : Running) (name : List ℕ) (vs : List Value) (p : Program) (scene : Scene) → Some p ≡ function_in (objects_of a.catalog.now) name
    → (length (parameters_of p) == length vs) ≡ true → is_among running.functions name ≡ true → (world_of a).below.call running name vs scene ≡ failed 1424 scene
call_under_way a running name vs p scene is counted called = starts a running name vs scene (Some p) is ∙ (rw (counted, called) refl)

pub call_too_deep : (a : Around) (running : Running) (name : List ℕ) (vs : List Value) (p : Program) (scene : Scene) → Some p ≡ function_in (objects_of a.catalog.now) name
    → (length (parameters_of p) == length vs) ≡ true → is_among running.functions name ≡ false → a.nesting ≡ 0 → (world_of a).below.call running name vs scene ≡ failed 30003 scene
call_too_deep a running name vs p scene is counted called none = starts a running name vs scene (Some p) is ∙ (rw (counted, called, none) refl)

-- one level further down
lower_is : (setting : Setting) (n : ℕ) → 0 < n → lower setting n ≡ Some (level_of setting (n - 1))
lower_is setting zero some = absurd (omega arith)
lower_is setting (suc n) some = let same : suc n - 1 ≡ n = omega arith in rw same refl

abbrev inside_of : Around → Running → World
inside_of a running = record { setting = setting_of a; below = level_of (setting_of a) (a.nesting - 1); running = running }

world_inside : (a inner : Around) (running : Running) → setting_of inner ≡ setting_of a → inner.nesting ≡ a.nesting - 1 → running_of inner.running.now ≡ running → world_of inner ≡ inside_of a running
unfolding world_of
world_inside a inner running same nesting is = λ i. record { setting = same i; below = level_of (same i) (nesting i); running = is i }

pub call_ends : (a inner : Around) (running : Running) (name : List ℕ) (vs : List Value) (p : Program) (r : Result Value SqlRefusal) (before after : Scene) → Some p ≡ function_in (objects_of a.catalog.now) name
    → (length (parameters_of p) == length vs) ≡ true → is_among running.functions name ≡ false → 0 < a.nesting
    → setting_of inner ≡ setting_of a → inner.nesting ≡ a.nesting - 1 → running_of inner.running.now ≡ in_function name running
    → EndsAs r after (function_body (world_of inner) p vs before) → EndsAs r after ((world_of a).below.call running name vs before)
call_ends a inner running name vs p r before after is counted called some same nesting inside h =
    ends_so r after _ _
    (starts a running name vs before (Some p) is
    ∙ (rw (counted, called, lower_is (setting_of a) a.nesting some) refl)
    ∙ ap (λ (w : World). function_body w p vs before) (sym (world_inside a inner (in_function name running) same nesting inside))) h

pub ruleset calls = (call_absent)

-- ---- events

abbrev fired : Setting → Option Below → Running → TableDef → Option (List Value) → Option (List Value) → Option Trigger → Action (Option (List Value))
fired setting below running definition new old o =
    elim o as (λ _. Action (Option (List Value))) [
      | None ↦ pure new
      | Some t ↦ elim below as (λ _. Action (Option (List Value))) [ None ↦ fail 30003 | Some down ↦ run_trigger setting running definition new old t down ]
    ]

fires : (a : Around) (running : Running) (time : Time) (event : Cause) (definition : TableDef) (new old : Option (List Value)) (scene : Scene) (o : Option Trigger)
    → o ≡ trigger_for (objects_of a.catalog.now) definition.name time event
    → (world_of a).below.fire running time event definition new old scene ≡ fired (setting_of a) (lower (setting_of a) a.nesting) running definition new old o scene
fires a running time event definition new old scene o is =
    ap (λ (fire : Running → Time → Cause → TableDef → Option (List Value) → Option (List Value) → Action (Option (List Value))). fire running time event definition new old scene) (below_fire a)
    ∙ ap (λ (t : Option Trigger). fired (setting_of a) (lower (setting_of a) a.nesting) running definition new old t scene) (sym is)

pub nothing_fires : (a : Around) (running : Running) (time : Time) (event : Cause) (definition : TableDef) (new old : Option (List Value)) (scene : Scene)
    → None ≡ trigger_for (objects_of a.catalog.now) definition.name time event → (world_of a).below.fire running time event definition new old scene ≡ done new scene
nothing_fires a running time event definition new old scene is = fires a running time event definition new old scene None is

pub fires_too_deep : (a : Around) (running : Running) (time : Time) (event : Cause) (definition : TableDef) (new old : Option (List Value)) (t : Trigger) (scene : Scene)
    → Some t ≡ trigger_for (objects_of a.catalog.now) definition.name time event → a.nesting ≡ 0 → (world_of a).below.fire running time event definition new old scene ≡ failed 30003 scene
fires_too_deep a running time event definition new old t scene is none = fires a running time event definition new old scene (Some t) is ∙ (rw none refl)

triggered_is : (a inner : Around) (running : Running) (definition : TableDef) (new old : Option (List Value)) (t : Trigger) (scene : Scene)
    → setting_of inner ≡ setting_of a → inner.nesting ≡ a.nesting - 1 → running_of inner.running.now ≡ running
    → run_trigger (setting_of a) running definition new old t (level_of (setting_of a) (a.nesting - 1)) scene ≡ triggered_in inner definition new old t scene
unfolding triggered_in
triggered_is a inner running definition new old t scene same nesting is =
    ap (λ (w : World). run_trigger w.setting w.running definition new old t w.below scene) (sym (world_inside a inner running same nesting is))

pub event_ends : (a inner : Around) (running : Running) (time : Time) (event : Cause) (definition : TableDef) (new old : Option (List Value)) (t : Trigger) (r : Result (Option (List Value)) SqlRefusal) (before after : Scene)
    → Some t ≡ trigger_for (objects_of a.catalog.now) definition.name time event → 0 < a.nesting
    → setting_of inner ≡ setting_of a → inner.nesting ≡ a.nesting - 1 → running_of inner.running.now ≡ running
    → EndsAsBy (left_of new) r after (triggered_in inner definition new old t before) → EndsAsBy (left_of new) r after ((world_of a).below.fire running time event definition new old before)
event_ends a inner running time event definition new old t r before after is some same nesting inside h =
    ends_so_by (left_of new) r after _ _
    (fires a running time event definition new old before (Some t) is
    ∙ ap (λ (b : Option Below). fired (setting_of a) b running definition new old (Some t) before) (lower_is (setting_of a) a.nesting some)
    ∙ triggered_is a inner running definition new old t before same nesting inside) h

pub ruleset events = (nothing_fires, fires_too_deep)
