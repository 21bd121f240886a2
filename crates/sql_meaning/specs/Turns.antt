-- Turns of WHILE are spent, and never given back.
use Rattle.std.specs.Prelude.{ℕ, ◌≤◌, List}
use Rattle.sql_tree.specs.Tree.{Trees}
use Rattle.sql_tree.specs.Statement.{Statement}
use Rattle.sql_locals.specs.declared.locals.Local.{Local}
use Rattle.sql_meaning.specs.Scenes.{Scene}
use Rattle.sql_meaning.specs.Frames.{Setting, Running}
use Rattle.sql_meaning.specs.Running.{Body, step, level_of, effect, evaluation}
use Rattle.sql_meaning.specs.Leading.{scene_after}

-- a statement of a session leaves no more turns than it found, whether it is done or ends with an error
abbrev pub StatementsSpendTurns : Type 0
StatementsSpendTurns =
    (setting : Setting) (nesting : ℕ) (locals : List Local) (s : Statement) (scene : Scene)
    → (scene_after (effect setting nesting locals s scene)).turns ≤ scene.turns

-- nor does a statement in the body of a function or trigger
abbrev pub BodiesSpendTurns : Type 0
BodiesSpendTurns =
    (setting : Setting) (nesting : ℕ) (running : Running) (body : Body) (s : Statement) (scene : Scene)
    → (scene_after (step (record { setting = setting; below = level_of setting nesting; running = running }) body s scene)).turns ≤ scene.turns

-- nor do expressions that a session evaluates
abbrev pub EvaluationsSpendTurns : Type 0
EvaluationsSpendTurns =
    (setting : Setting) (nesting : ℕ) (locals : List Local) (ts : Trees) (scene : Scene)
    → (scene_after (evaluation setting nesting locals ts scene)).turns ≤ scene.turns
