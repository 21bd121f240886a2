use Rattle.reach_laws.proofs.Exact.{reached_runs}
use Rattle.reach_laws.proofs.laws.reached_is_what_runs.Goals as goal

pub returns : goal.returns
returns c = reached_runs
