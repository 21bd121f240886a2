-- How a statement of a session ends, by the scene that it left.
use Rattle.std.specs.Prelude.{◌≡◌, ℕ, if◌then◌else◌, List, [], Option, None, Result, Ok, Err, ℤ}
use Rattle.val_types.specs.declared.value.Value.{Value}
use Rattle.val_types.specs.declared.refusal.SqlRefusal.{SqlRefusal}
use Rattle.val_types.specs.declared.refusal.SqlRefusal.TheVariants.{Sql, NoMemory}
use Rattle.port_traits.specs.declared.identity.Draw.{Draw}
use Rattle.sql_tree.specs.Statement.{Statement, evaluate}
use Rattle.sql_tree.specs.Tree.{Trees}
use Rattle.sql_locals.specs.declared.locals.Local.{Local}
use Rattle.proc_parts.specs.sql_reach.Defining.{number_of_bytes}
use Rattle.proc_parts.specs.sql_meaning.Scenes.{Scene, Ending, done, failed}
use Rattle.proc_parts.specs.sql_meaning.Frames.{Context}
use Rattle.proc_parts.specs.sql_meaning.Changing.{Did}
use Rattle.proc_parts.specs.sql_meaning.Running.{effect, evaluation, context_after}
use Rattle.proc_parts.specs.prog_work.declared.meter.Meter.{Meter}
use Rattle.proc_parts.specs.prog_work.declared.meter.Outcome.{Outcome}
use Rattle.proc_parts.specs.prog_work.Outcomes.{outcome_of}
use Rattle.proc_parts.specs.proc_model.Talk.{Left}
use Rattle.session_shared.specs.session_model.Sessions.{Shared}
use Rattle.session_shared.specs.session_model.Running.{Fuel, Given, fuel_of, is_other, scene_for, setting_of, with_counters}

-- ---- where a statement begins and ends

-- What is shared there, and the context of its session.
pub record Place : Type 0 where
  pub shared : Shared
  pub context : Context

abbrev pub place_at : Shared → Context → Place
place_at shared context = record { shared = shared; context = context }

-- what is left to a statement behind others, and behind it
abbrev pub fuel_at : Meter → Fuel
fuel_at m = record { turns = m.turns; uuids = m.uuids }

-- what a statement does there
abbrev pub effect_for : ℕ → Draw → Left → Statement → Place → Ending Did
effect_for n draw left s p =
    effect (setting_of p.shared.base.catalog p.context (number_of_bytes 0 draw.uuid)) left.nesting [] s (scene_for n left p.context p.shared)

-- what expressions give there, where locals are in scope
abbrev pub evaluation_for : ℕ → Draw → Left → List Local → Trees → Place → Ending (List Value)
evaluation_for n draw left locals ts p =
    evaluation (setting_of p.shared.base.catalog p.context (number_of_bytes 0 draw.uuid)) left.nesting locals ts (scene_for n left p.context p.shared)

-- what is shared behind the scene that a statement left: one beside another session's open changes moved counters alone
abbrev pub shared_behind : ℕ → Shared → Scene → Shared
shared_behind n shared scene =
    if is_other n shared.writer then with_counters scene shared else record (with_counters scene shared) { changes = scene.changes }

-- ---- how it ended

-- a statement left a scene
pub record Leaves (n : ℕ) (s : Statement) (last_id : Option ℤ) (fuel : Fuel) (scene : Scene) (old new : Place) : Type 0 where
  pub shared : new.shared ≡ shared_behind n old.shared scene
  pub context : new.context ≡ context_after old.context s scene.seeds last_id
  pub spent : fuel ≡ fuel_of scene

-- an error left counters, seeds and the use of a forced INSERT_ID
pub record Fails {A : Type 0} (s : Statement) (code : ℕ) (fuel : Fuel) (ending : Ending A) (old new : Place) : Type 0 where
  pub scene : Scene
  pub ends : ending ≡ failed code scene
  pub shared : new.shared ≡ with_counters scene old.shared
  pub context : new.context ≡ context_after old.context s scene.seeds None
  pub spent : fuel ≡ fuel_of scene

-- a statement came to something, of which this is told
pub record Came (n : ℕ) (draw : Draw) (left : Left) (s : Statement) (told : Outcome) (fuel : Fuel) (old new : Place) : Type 0 where
  pub did : Did
  pub scene : Scene
  pub ends : effect_for n draw left s old ≡ done did scene
  pub outcome : told ≡ outcome_of did
  pub leaves : Leaves n s did.last_id fuel scene old new

abbrev pub Comes : ℕ → Draw → Left → Statement → Result Outcome SqlRefusal → Fuel → Place → Place → Type 0
Comes n draw left s (Ok told) fuel old new = Came n draw left s told fuel old new
Comes n draw left s (Err (Sql code)) fuel old new = Fails s code fuel (effect_for n draw left s old) old new
Comes n draw left s (Err NoMemory) fuel old new = Unit {0}

-- the same of expressions, as of the DO over them
pub record Gave (n : ℕ) (draw : Draw) (left : Left) (locals : List Local) (ts : Trees) (vs : List Value) (fuel : Fuel) (old new : Place) : Type 0 where
  pub scene : Scene
  pub ends : evaluation_for n draw left locals ts old ≡ done vs scene
  pub leaves : Leaves n (evaluate ts) None fuel scene old new

abbrev pub Gives : ℕ → Draw → Left → List Local → Trees → Result (List Value) SqlRefusal → Fuel → Place → Place → Type 0
Gives n draw left locals ts (Ok vs) fuel old new = Gave n draw left locals ts vs fuel old new
Gives n draw left locals ts (Err (Sql code)) fuel old new = Fails (evaluate ts) code fuel (evaluation_for n draw left locals ts old) old new
Gives n draw left locals ts (Err NoMemory) fuel old new = Unit {0}

-- ---- what is told

-- of a statement that came to an end
abbrev pub told_of : Result Did ℕ → Result Outcome ℕ
told_of (Ok did) = Ok (outcome_of did)
told_of (Err code) = Err code

abbrev pub told_given : Given Did → Given Outcome
told_given given = record { result = told_of given.result; fuel = given.fuel; warned = given.warned }
