-- What statements and evaluations of a session do leads on, and spends turns.
use Rattle.sql_tree.specs.Statement.{Statement}
use Rattle.log_entries.specs.catalog_rules.Nodes.{no_sight, nodes_of, nodes_of_trees}
use Rattle.sql_meaning.specs.Scenes.{Scene, Ending, done, failed, Action, undone_from, undone}
use Rattle.sql_meaning.specs.Frames.{only_locals}
use Rattle.sql_meaning.specs.Values.{values}
use Rattle.sql_meaning.specs.Running.{perform, level_of, world_of, forced_for, effect, evaluation}
use Rattle.sql_meaning.specs.Leading.{scene_after, StatementsEndWell, EvaluationsEndWell}
use Rattle.sql_meaning.specs.Turns.{StatementsSpendTurns, BodiesSpendTurns, EvaluationsSpendTurns}
use Rattle.sql_meaning.proofs.Steps.{IsMoved, leading_work, NoMoreTurns, spending_work, undone_ends_well}
use Rattle.sql_meaning.proofs.Moved.{values_moved}
use Rattle.sql_meaning.proofs.MovedBodies.{perform_moved, step_moved, level_moved}

pub statements_end : StatementsEndWell
unfolding effect
statements_end setting nesting locals s scene =
    undone_ends_well (perform (world_of setting nesting (nodes_of s)) (only_locals locals) (forced_for setting.context s) s)
    (perform_moved leading_work (world_of setting nesting (nodes_of s)) (level_moved leading_work setting nesting) (only_locals locals) (forced_for setting.context s) s) scene

pub evaluations_end : EvaluationsEndWell
unfolding evaluation
evaluations_end setting nesting locals ts scene =
    undone_ends_well (values (world_of setting nesting (nodes_of_trees ts no_sight)) (only_locals locals) ts)
    (values_moved leading_work.move (world_of setting nesting (nodes_of_trees ts no_sight)) (level_moved leading_work setting nesting).calls (only_locals locals) ts) scene

-- ---- turns

spends_from : {A : Type 0} (before : Scene) (e : Ending A) → NoMoreTurns before (scene_after e) → NoMoreTurns before (scene_after (undone_from before e))
spends_from before (done a scene) p = p
spends_from before (failed code scene) p = p

undone_spends : {A : Type 0} (m : Action A) → IsMoved NoMoreTurns m → (scene : Scene) → NoMoreTurns scene (scene_after (undone m scene))
undone_spends m moved scene = spends_from scene (m scene) (moved.moves scene)

pub statements_spend : StatementsSpendTurns
unfolding effect
statements_spend setting nesting locals s scene =
    undone_spends (perform (world_of setting nesting (nodes_of s)) (only_locals locals) (forced_for setting.context s) s)
    (perform_moved spending_work (world_of setting nesting (nodes_of s)) (level_moved spending_work setting nesting) (only_locals locals) (forced_for setting.context s) s) scene

pub bodies_spend : BodiesSpendTurns
bodies_spend setting nesting running body s scene =
    (step_moved spending_work (record { setting = setting; below = level_of setting nesting; running = running }) (level_moved spending_work setting nesting) body s).moves scene

pub evaluations_spend : EvaluationsSpendTurns
unfolding evaluation
evaluations_spend setting nesting locals ts scene =
    undone_spends (values (world_of setting nesting (nodes_of_trees ts no_sight)) (only_locals locals) ts)
    (values_moved spending_work.move (world_of setting nesting (nodes_of_trees ts no_sight)) (level_moved spending_work setting nesting).calls (only_locals locals) ts) scene
