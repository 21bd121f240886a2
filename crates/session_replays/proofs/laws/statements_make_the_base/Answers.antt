use Rattle.session_replays.proofs.Rerunning.{runs_again}
use Rattle.session_replays.proofs.laws.statements_make_the_base.Goals as goal

pub returns : goal.returns
returns c = runs_again
