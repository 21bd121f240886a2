-- More nesting and turns than a statement needs change nothing of what it does.
use Rattle.std.specs.Prelude.{◌≡◌, ℕ, ◌+◌, ◌≤◌, List}
use Rattle.sql_tree.specs.Tree.{Trees}
use Rattle.sql_tree.specs.Statement.{Statement}
use Rattle.sql_locals.specs.declared.locals.Local.{Local}
use Rattle.sql_meaning.specs.Scenes.{Scene, Ending, done, failed}
use Rattle.sql_meaning.specs.Frames.{Setting}
use Rattle.sql_meaning.specs.Running.{effect, evaluation}

-- the same scene, with so many turns more
pub record HasMore (extra : ℕ) (a b : Scene) : Type 0 where
  pub tables : b.tables ≡ a.tables
  pub changes : b.changes ≡ a.changes
  pub counters : b.counters ≡ a.counters
  pub seeds : b.seeds ≡ a.seeds
  pub uuids : b.uuids ≡ a.uuids
  pub turns : b.turns ≡ a.turns + extra

-- what was done is done again, with as many turns used; nothing is said of an error
abbrev pub DoneAgain : {A : Type 0} → ℕ → Ending A → Ending A → Type 0
DoneAgain extra (done x a) (done y b) = (x ≡ y) × HasMore extra a b
DoneAgain extra (done x a) (failed code b) = ⊥
DoneAgain extra (failed code a) other = Unit {0}

-- with more levels of nesting and more turns, each statement and each evaluation that ends without an error does the same
abbrev pub StatementsKeep : Type 0
StatementsKeep =
    (setting : Setting) (nesting more extra : ℕ) (locals : List Local) (s : Statement) (a b : Scene)
    → nesting ≤ more → HasMore extra a b → DoneAgain extra (effect setting nesting locals s a) (effect setting more locals s b)

abbrev pub EvaluationsKeep : Type 0
EvaluationsKeep =
    (setting : Setting) (nesting more extra : ℕ) (locals : List Local) (ts : Trees) (a b : Scene)
    → nesting ≤ more → HasMore extra a b → DoneAgain extra (evaluation setting nesting locals ts a) (evaluation setting more locals ts b)
