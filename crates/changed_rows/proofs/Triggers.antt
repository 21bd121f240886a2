-- Triggers before and after a change of a row.
use Rattle.std.proofs.Common.{◌≡◌, refl}
use Rattle.sql_evaluation.specs.declared.world.Around.{Around}
use Rattle.sql_evaluation.specs.Seen.{world_of, running_of}

-- what is running round a statement
pub under_way : (a : Around) → (world_of a).running ≡ running_of a.running.now
unfolding world_of
under_way a = refl
