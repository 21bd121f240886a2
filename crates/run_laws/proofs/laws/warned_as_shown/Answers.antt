use Rattle.run_laws.proofs.Following.{warned_as_shown}
use Rattle.run_laws.proofs.laws.warned_as_shown.Goals as goal

pub returns : goal.returns
returns c = warned_as_shown
