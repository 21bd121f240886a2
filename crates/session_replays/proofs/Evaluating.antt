-- The DO over some expressions, and their evaluation.
use Rattle.std.proofs.Common.{◌≡◌, List, refl}
use Rattle.val_types.specs.declared.value.Value.{Value}
use Rattle.name_const_laws.specs.catalog_rules.Nodes.{no_sight, nodes_of_trees}
use Rattle.name_const_laws.specs.sql_meaning.Scenes.{Scene, Ending, done, failed, then_do, pure, undone_from}
use Rattle.name_const_laws.specs.sql_meaning.Frames.{only_locals}
use Rattle.name_const_laws.specs.sql_meaning.Values.{values}
use Rattle.name_const_laws.specs.sql_meaning.Changing.{affected_rows}
use Rattle.name_const_laws.specs.sql_meaning.Running.{effect, evaluation, world_of}
use Rattle.session_replays.specs.Again.{without_values, SetsRunAsDos}

-- where the values are there, or an error is
done_as : (before : Scene) (e : Ending (List Value)) → undone_from before (then_do e (λ _. pure (affected_rows 0))) ≡ without_values (undone_from before e)
done_as before (done vs scene) = refl
done_as before (failed code scene) = refl

pub sets_run_as_dos : SetsRunAsDos
unfolding effect evaluation
sets_run_as_dos setting nesting locals ts scene = done_as scene (values (world_of setting nesting (nodes_of_trees ts no_sight)) (only_locals locals) ts scene)
