-- What changes nothing: SELECTs and DOs that call nothing that changes.
use Rattle.std.proofs.Common.{◌≡◌, ℕ, zero, suc, List, Option, None, Some, refl}
use Rattle.val_types.specs.declared.value.Value.{Value}
use Rattle.sql_tree.specs.Statement.{select, evaluate}
use Rattle.log_entries.specs.catalog_rules.Nodes.{nodes_of, nodes_of_trees, no_sight}
use Rattle.log_entries.specs.catalog_rules.Objects.{function_in}
use Rattle.sql_tree.specs.Statement.{Program}
use Rattle.sql_meaning.specs.Scenes.{Scene, Ending, done, failed, Action, ◌>>=◌, pure, needed, undone_from, undone}
use Rattle.sql_meaning.specs.Frames.{Setting, Running, Below, only_locals}
use Rattle.sql_meaning.specs.Values.{values, rows_of_query}
use Rattle.sql_meaning.specs.Running.{start_function, level_of, world_of, effect, evaluation}
use Rattle.sql_meaning.specs.Leading.{scene_after, StaysAsItWas, CallsChangeNothing, SelectsChangeNothing, DosChangeNothing, EvaluationsChangeNothing, NoFunctionChanges}
use Rattle.sql_meaning.proofs.Steps.{IsMoved, staying, bind_moved, pure_moved}
use Rattle.sql_meaning.proofs.Moved.{CallsMoved, values_moved, query_moved}

still_from : {A : Type 0} (before : Scene) (e : Ending A) → StaysAsItWas before (scene_after e) → StaysAsItWas before (scene_after (undone_from before e))
still_from before (done a scene) p = p
still_from before (failed code scene) p = record { tables = refl; changes = refl }

still : {A : Type 0} (m : Action A) → IsMoved StaysAsItWas m → (scene : Scene) → StaysAsItWas scene (scene_after (undone m scene))
still m moved scene = still_from scene (m scene) (moved.moves scene)

calls_still : (setting : Setting) (nesting : ℕ) → CallsChangeNothing setting nesting → CallsMoved StaysAsItWas (level_of setting nesting)
calls_still setting nesting calls = record { calls = λ running n vs. record { moves = calls running n vs } }

pub selects_still : SelectsChangeNothing
unfolding effect
selects_still setting nesting locals q scene calls =
    let world = world_of setting nesting (nodes_of (select q)) in
    still (rows_of_query world (only_locals locals) q >>= λ shown. pure _)
    (bind_moved staying (rows_of_query world (only_locals locals) q) _ (query_moved staying world (calls_still setting nesting calls) (only_locals locals) q) (λ shown. pure_moved staying _))
    scene

pub dos_still : DosChangeNothing
unfolding effect
dos_still setting nesting locals ts scene calls =
    let world = world_of setting nesting (nodes_of (evaluate ts)) in
    still (values world (only_locals locals) ts >>= λ vs. pure _)
    (bind_moved staying (values world (only_locals locals) ts) _ (values_moved staying world (calls_still setting nesting calls) (only_locals locals) ts) (λ vs. pure_moved staying _))
    scene

pub evaluations_still : EvaluationsChangeNothing
unfolding evaluation
evaluations_still setting nesting locals ts scene calls =
    let world = world_of setting nesting (nodes_of_trees ts no_sight) in
    still (values world (only_locals locals) ts) (values_moved staying world (calls_still setting nesting calls) (only_locals locals) ts) scene

-- a call of a function that is not there
absent_still : (setting : Setting) (below : Option Below) (running : Running) (name : List ℕ) (arguments : List Value) (scene : Scene) (o : Option Program) → o ≡ None
    → StaysAsItWas scene (scene_after ((needed 1305 o >>= start_function setting below running name arguments) scene))
absent_still setting below running name arguments scene None e = record { tables = refl; changes = refl }
absent_still setting below running name arguments scene (Some p) e = cc

pub absent_calls_still : NoFunctionChanges
unfolding level_of
absent_calls_still setting zero none running name arguments scene = absent_still setting None running name arguments scene (function_in setting.catalog name) (none name)
absent_calls_still setting (suc n) none running name arguments scene = absent_still setting (Some (level_of setting n)) running name arguments scene (function_in setting.catalog name) (none name)
