use Rattle.session_replays.proofs.Evaluating.{sets_run_as_dos}
use Rattle.session_replays.proofs.laws.sets_run_as_dos.Goals as goal

pub returns : goal.returns
returns c = sets_run_as_dos
