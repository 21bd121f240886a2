use Rattle.apply_laws.proofs.Following.{entries_of_runs_follow}
use Rattle.apply_laws.proofs.laws.entries_of_runs_follow.Goals as goal

pub returns : goal.returns
returns c = entries_of_runs_follow
