-- The parts of procedures that the code takes one by one.
use Rattle.std.specs.Prelude.{◌≡◌, ℕ, Bool, List, [], ◌∷◌, Option, Some, None, Result}
use Rattle.val_types.specs.declared.value.Value.{Value}
use Rattle.sql_tree.specs.Tree.{Tree, Trees, Part}
use Rattle.sql_tree.specs.Statement.{Declared, Statement}
use Rattle.sql_tree.specs.declared.statements.Target.{Target}
use Rattle.sql_locals.specs.declared.locals.Local.{Local}
use Rattle.value_rules.specs.Operators.{truth_of, with_value}
use Rattle.value_rules.specs.Functions.{is_known_true}
use Rattle.name_const.specs.proc_model.Talk.{Rules}
use Rattle.proc_parts.specs.declared.runner.RunRefusal.{RunRefusal}
use Rattle.name_const.specs.proc_model.Procedures.{Action, Held, ◌>>=◌, pure, answered, first_value, checked_values, preset_value, declare, carried_on, assign_one, plain_step, argument_values, step}
use Rattle.proc_parts.specs.declared.world.World.{World}
use Rattle.proc_parts.specs.Calls.{world_of, EndsBy, always, expressions_of}

-- ---- parts, where the code's world is round them

-- the values of the expressions of a DO, the first of them, and whether that holds
unfoldable pub values_at : World → List Local → Statement → Action (List Value)
values_at w locals s = checked_values (world_of w) locals (expressions_of s)

unfoldable pub value_at : World → List Local → Statement → Action Value
value_at w locals s = values_at w locals s >>= λ vs. pure (first_value vs)

unfoldable pub holds_at : World → List Local → Statement → Action Bool
holds_at w locals s = value_at w locals s >>= λ v. answered (with_value is_known_true (truth_of v))

unfoldable pub preset_at : World → List Local → Part → Action Value
preset_at w locals p = preset_value (world_of w) locals p

unfoldable pub declared_at : World → List Local → Declared → Action (List Local)
declared_at w locals d = declare (world_of w) locals d

unfoldable pub all_declared_at : World → List Local → List Declared → Action (List Local)
all_declared_at w locals ds = carried_on (declare (world_of w)) locals ds

unfoldable pub plain_at : World → List Local → Statement → Action (List Local)
plain_at w locals s = plain_step (world_of w) locals s

unfoldable pub arguments_at : World → List Local → Trees → Action (List Value)
arguments_at w locals ts = argument_values (world_of w) locals ts

unfoldable pub step_at : World → List Local → Statement → Action (List Local)
step_at w locals s = step (world_of w) locals s

-- a user variable or a local is assigned, whatever the CALL has so far
pub record Assigns {S : Type 0} (rules : Rules S) (faults : S → ℕ) (locals locals' : List Local) (a : Target × Value) (result : Result (Unit {0}) RunRefusal) (before after : S) : Type 0 where
  pub ends : (held : Held) → EndsBy rules faults (always locals') result held before (assign_one locals a held) after

-- so are several
pub record AssignsAll {S : Type 0} (rules : Rules S) (faults : S → ℕ) (locals locals' : List Local) (as' : List (Target × Value)) (result : Result (Unit {0}) RunRefusal) (before after : S) : Type 0 where
  pub ends : (held : Held) → EndsBy rules faults (always locals') result held before (carried_on assign_one locals as' held) after

-- the first of some values, and those behind it; None where there are none
abbrev pub ComesFirst : {A : Type 0} → Option A → List A → List A → Type 0
ComesFirst None old new = (old ≡ []) × (new ≡ [])
ComesFirst (Some v) old new = old ≡ v ∷ new
