-- All that a statement can run is reached; and a statement that does not write changes nothing.
use Rattle.std.specs.Prelude.{◌≡◌, ℕ, true, false, List, Some}
use Rattle.sql_tree.specs.Tree.{Trees}
use Rattle.sql_tree.specs.Statement.{Program, Trigger, Statement, evaluate}
use Rattle.sql_tree.specs.declared.statements.Time.{Time}
use Rattle.sql_tree.specs.declared.statements.Cause.{Cause}
use Rattle.sql_locals.specs.declared.locals.Local.{Local}
use Rattle.sql_reach.specs.catalog_rules.Objects.{Object, function, reaction, function_in, trigger_for}
use Rattle.sql_reach.specs.catalog_rules.Nodes.{Node, a_function_call, a_statement, nodes_of}
use Rattle.sql_reach.specs.sql_meaning.Scenes.{Scene}
use Rattle.sql_reach.specs.sql_meaning.Frames.{Setting}
use Rattle.sql_reach.specs.sql_meaning.Running.{effect, evaluation}
use Rattle.sql_reach.specs.sql_meaning.Leading.{scene_after, StaysAsItWas}
use Rattle.sql_reach.specs.Reach.{causes_event, body_nodes, reached_programs, reached_nodes, writes}
use Rattle.reach_laws.specs.Members.{In}
use Rattle.reach_laws.specs.Agreeing.{AgreeOn}

-- ---- reach is closed

-- a function that is found under a name which something reached calls is reached
abbrev pub CallsAreReached : Type 0
CallsAreReached =
    (catalog : List Object) (nodes : List Node) (name : List ℕ) (count : ℕ) (p : Program)
    → In (a_function_call name count) (reached_nodes catalog nodes) → function_in catalog name ≡ Some p
    → In (function p) (reached_programs catalog nodes)

-- and so is a trigger that is found for an event which a statement reached causes
abbrev pub TriggersAreReached : Type 0
TriggersAreReached =
    (catalog : List Object) (nodes : List Node) (s : Statement) (on : List ℕ) (event : Cause) (time : Time) (t : Trigger)
    → In (a_statement s) (reached_nodes catalog nodes) → causes_event on event s ≡ true → trigger_for catalog on time event ≡ Some t
    → In (reaction t) (reached_programs catalog nodes)

-- with all that the body of a program reached has of nodes
abbrev pub BodiesAreReached : Type 0
BodiesAreReached =
    (catalog : List Object) (nodes : List Node) (o : Object) (node : Node)
    → In o (reached_programs catalog nodes) → In node (body_nodes o) → In node (reached_nodes catalog nodes)

-- ---- what is reached is what runs

-- a statement ends just the same, in whatever scene and whether with an error or without, in each setting that is the same to all
-- that it reaches
abbrev pub ReachedIsWhatRuns : Type 0
ReachedIsWhatRuns =
    (setting setting' : Setting) (nesting : ℕ) (locals : List Local) (s : Statement) (scene : Scene)
    → AgreeOn (reached_nodes setting.catalog (nodes_of s)) setting setting'
    → effect setting nesting locals s scene ≡ effect setting' nesting locals s scene

-- ---- who does not write

-- a statement that does not write leaves tables and changes, whether it ends with or without an error
abbrev pub ReadersChangeNothing : Type 0
ReadersChangeNothing =
    (setting : Setting) (nesting : ℕ) (locals : List Local) (s : Statement) (scene : Scene)
    → writes setting.catalog s ≡ false → StaysAsItWas scene (scene_after (effect setting nesting locals s scene))

-- and so do expressions that a session evaluates, where the DO over them does not write
abbrev pub ReadingChangesNothing : Type 0
ReadingChangesNothing =
    (setting : Setting) (nesting : ℕ) (locals : List Local) (ts : Trees) (scene : Scene)
    → writes setting.catalog (evaluate ts) ≡ false → StaysAsItWas scene (scene_after (evaluation setting nesting locals ts scene))
