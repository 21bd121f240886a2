-- How a statement that a session or an applier runs ends.
use Rattle.std.specs.Prelude.{◌≡◌, ℕ, List, [], Option, None, Result, Ok, Err, ℤ, pos, int_le, IfSome, IsTrue}
use Rattle.val_types.specs.declared.value.Value.{Value}
use Rattle.val_types.specs.declared.refusal.SqlRefusal.{SqlRefusal}
use Rattle.val_types.specs.declared.refusal.SqlRefusal.TheVariants.{Sql, NoMemory}
use Rattle.port_traits.specs.declared.identity.Draw.{Draw}
use Rattle.sql_tree.specs.Tree.{Trees}
use Rattle.sql_tree.specs.Statement.{Statement, evaluate}
use Rattle.sql_locals.specs.declared.locals.Local.{Local}
use Rattle.prog_work.specs.catalog_objects.Keys.{objects_of}
use Rattle.statement_names.specs.sql_meaning.Scenes.{Scene, Ending, done, failed}
use Rattle.statement_names.specs.sql_meaning.Frames.{Context, Setting}
use Rattle.statement_names.specs.sql_meaning.Changing.{Did}
use Rattle.statement_names.specs.sql_meaning.Running.{effect, evaluation, context_after}
use Rattle.exec_state.specs.declared.stage.Stage.{Stage}
use Rattle.exec_state.specs.Stage.{NoneLower, scene_of}
use Rattle.statement_names.specs.sql_reach.Defining.{number_of_bytes}
use Rattle.prog_work.specs.declared.meter.Meter.{Meter}
use Rattle.prog_work.specs.declared.meter.Outcome.{Outcome}
use Rattle.prog_work.specs.Contents.{as_committed, Contents}
use Rattle.prog_work.specs.Outcomes.{outcome_of}

-- Where a statement begins or ends: what is worked on, the context of its session, and what is left to its command.
pub record Moment : Type 0 where
  pub contents : Contents
  pub context : Context
  pub meter : Meter

abbrev pub moment : Contents → Context → Meter → Moment
moment contents context meter = record { contents = contents; context = context; meter = meter }

-- the scene there
abbrev pub scene_at : Moment → Scene
scene_at m = record {
  tables = m.contents.tables;
  changes = m.contents.changes;
  counters = m.contents.counters;
  seeds = m.context.seeds;
  turns = m.meter.turns;
  uuids = m.meter.uuids;
}

abbrev pub setting_at : Draw → Moment → Setting
setting_at draw m = record { catalog = objects_of m.contents.objects; context = m.context; uuid = number_of_bytes 0 draw.uuid }

-- what a statement does from there
abbrev pub effect_at : Draw → Statement → Moment → Ending Did
effect_at draw s m = effect (setting_at draw m) m.meter.depth [] s (scene_at m)

-- what expressions give there
abbrev pub evaluation_at : Draw → List Local → Trees → Moment → Ending (List Value)
evaluation_at draw locals ts m = evaluation (setting_at draw m) m.meter.depth locals ts (scene_at m)

-- a value that is there is not below 0
abbrev pub Counts : Option ℤ → Type 0
Counts v = IfSome v (λ id. IsTrue (int_le (pos 0) id))

-- ---- changes, SELECT and DO

-- the catalog is as it was, and the context has what the statement left: seeds, a forced INSERT_ID used up, LAST_INSERT_ID()
pub record Passes (s : Statement) (last_id : Option ℤ) (before after : Moment) : Type 0 where
  pub objects : after.contents.objects ≡ before.contents.objects
  pub context : after.context ≡ context_after before.context s after.context.seeds last_id

-- a statement came to something: this is told of it, and it left this scene and context
pub record Ran (draw : Draw) (s : Statement) (told : Outcome) (before after : Moment) : Type 0 where
  pub did : Did
  pub ends : effect_at draw s before ≡ done did (scene_at after)
  pub outcome : told ≡ outcome_of did
  pub passes : Passes s did.last_id before after

-- it ended as its effect ends; where memory was wanted, nothing is said here
abbrev pub Runs : Draw → Statement → Result Outcome SqlRefusal → Moment → Moment → Type 0
Runs draw s (Ok told) before after = Ran draw s told before after
Runs draw s (Err (Sql code)) before after = (effect_at draw s before ≡ failed code (scene_at after)) × Passes s None before after
Runs draw s (Err NoMemory) before after = Unit {0}

-- the same of expressions, as of the DO over them
abbrev pub Evaluated : Draw → List Local → Trees → Result (List Value) SqlRefusal → Moment → Moment → Type 0
Evaluated draw locals ts (Ok vs) before after = (evaluation_at draw locals ts before ≡ done vs (scene_at after)) × Passes (evaluate ts) None before after
Evaluated draw locals ts (Err (Sql code)) before after = (evaluation_at draw locals ts before ≡ failed code (scene_at after)) × Passes (evaluate ts) None before after
Evaluated draw locals ts (Err NoMemory) before after = Unit {0}

-- ---- beside open changes

-- it ended so on the rows that were last committed; of what it left there the counters alone are kept
pub record Beside (Ends : Moment → Moment → Type 0) (before after : Moment) : Type 0 where
  pub left : Contents
  pub ends : Ends (moment (as_committed before.contents) before.context before.meter) (moment left after.context after.meter)
  pub kept : after.contents ≡ record (before.contents) { counters = left.counters }

-- ---- the same on a stage

-- what a statement came to, with the stage and the context behind it
pub record Came (setting : Setting) (nesting : ℕ) (s : Statement) (told : Outcome) (before after : Stage) (later : Context) : Type 0 where
  pub did : Did
  pub ends : effect setting nesting [] s (scene_of before) ≡ done did (scene_of after)
  pub outcome : told ≡ outcome_of did
  pub context : later ≡ context_after setting.context s after.seeds did.last_id

abbrev pub Comes : Setting → ℕ → Statement → Result Outcome SqlRefusal → Stage → Stage → Context → Type 0
Comes setting nesting s (Ok told) before after later = Came setting nesting s told before after later
Comes setting nesting s (Err (Sql code)) before after later = (effect setting nesting [] s (scene_of before) ≡ failed code (scene_of after)) × (later ≡ context_after setting.context s after.seeds None)
Comes setting nesting s (Err NoMemory) before after later = Unit {0}

abbrev pub Gives : Setting → ℕ → List Local → Trees → Result (List Value) SqlRefusal → Stage → Stage → Context → Type 0
Gives setting nesting locals ts (Ok vs) before after later = (evaluation setting nesting locals ts (scene_of before) ≡ done vs (scene_of after)) × (later ≡ context_after setting.context (evaluate ts) after.seeds None)
Gives setting nesting locals ts (Err (Sql code)) before after later = (evaluation setting nesting locals ts (scene_of before) ≡ failed code (scene_of after)) × (later ≡ context_after setting.context (evaluate ts) after.seeds None)
Gives setting nesting locals ts (Err NoMemory) before after later = Unit {0}

-- an error of any kind leaves rows, changes and catalog as they were, and lowers no counter
pub record LeavesAll (before after : Contents) : Type 0 where
  pub objects : after.objects ≡ before.objects
  pub tables : after.tables ≡ before.tables
  pub changes : after.changes ≡ before.changes
  pub counters : NoneLower before.counters after.counters
