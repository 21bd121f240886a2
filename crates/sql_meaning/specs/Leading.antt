-- What holds of every statement: its changes are made one after the other, and an error takes them back.
use Rattle.std.specs.Prelude.{◌≡◌, ℕ, List, ◌++◌, Some, None}
use Rattle.val_types.specs.declared.value.Value.{Value}
use Rattle.val_types.specs.declared.change.Change.{Change}
use Rattle.table_rules.specs.Stored.{all_applied}
use Rattle.sql_tree.specs.Tree.{Trees, Query}
use Rattle.sql_tree.specs.Statement.{Statement, select, evaluate}
use Rattle.sql_locals.specs.declared.locals.Local.{Local}
use Rattle.sql_meaning.specs.Scenes.{Scene, Ending, done, failed}
use Rattle.log_entries.specs.catalog_rules.Objects.{function_in}
use Rattle.sql_meaning.specs.Frames.{Setting, Running}
use Rattle.sql_meaning.specs.Running.{level_of, effect, evaluation}

-- the scene that an action leaves, whether it ends with a value or with an error
abbrev pub scene_after : {A : Type 0} → Ending A → Scene
scene_after (done a scene) = scene
scene_after (failed code scene) = scene

-- The changes of one scene are those of an earlier one with more behind them, and these lead from its tables to those then.
pub record Leads (old new : Scene) : Type 0 where
  pub more : List Change
  pub added : new.changes ≡ old.changes ++ more
  pub made : all_applied more old.tables ≡ Some new.tables

-- tables and changes are as they were
pub record StaysAsItWas (old new : Scene) : Type 0 where
  pub tables : new.tables ≡ old.tables
  pub changes : new.changes ≡ old.changes

-- what is done leads on, and an error leaves all as it was
abbrev pub EndsWell : {A : Type 0} → Scene → Ending A → Type 0
EndsWell before (done a after) = Leads before after
EndsWell before (failed code after) = StaysAsItWas before after

-- so does each statement, and each evaluation, of a session
abbrev pub StatementsEndWell : Type 0
StatementsEndWell =
    (setting : Setting) (nesting : ℕ) (locals : List Local) (s : Statement) (scene : Scene) → EndsWell scene (effect setting nesting locals s scene)

abbrev pub EvaluationsEndWell : Type 0
EvaluationsEndWell =
    (setting : Setting) (nesting : ℕ) (locals : List Local) (ts : Trees) (scene : Scene) → EndsWell scene (evaluation setting nesting locals ts scene)

-- the functions that a session may call change nothing
abbrev pub CallsChangeNothing : Setting → ℕ → Type 0
CallsChangeNothing setting nesting =
    (running : Running) (name : List ℕ) (arguments : List Value) (scene : Scene)
    → StaysAsItWas scene (scene_after ((level_of setting nesting).call running name arguments scene))

-- then a SELECT changes nothing
abbrev pub SelectsChangeNothing : Type 0
SelectsChangeNothing =
    (setting : Setting) (nesting : ℕ) (locals : List Local) (q : Query) (scene : Scene)
    → CallsChangeNothing setting nesting → StaysAsItWas scene (scene_after (effect setting nesting locals (select q) scene))

-- and a DO changes nothing
abbrev pub DosChangeNothing : Type 0
DosChangeNothing =
    (setting : Setting) (nesting : ℕ) (locals : List Local) (ts : Trees) (scene : Scene)
    → CallsChangeNothing setting nesting → StaysAsItWas scene (scene_after (effect setting nesting locals (evaluate ts) scene))

-- nor do the expressions that a session evaluates
abbrev pub EvaluationsChangeNothing : Type 0
EvaluationsChangeNothing =
    (setting : Setting) (nesting : ℕ) (locals : List Local) (ts : Trees) (scene : Scene)
    → CallsChangeNothing setting nesting → StaysAsItWas scene (scene_after (evaluation setting nesting locals ts scene))

-- where a catalog has no function, none changes anything
abbrev pub NoFunctionChanges : Type 0
NoFunctionChanges =
    (setting : Setting) (nesting : ℕ) → ((name : List ℕ) → function_in setting.catalog name ≡ None) → CallsChangeNothing setting nesting
