use Rattle.auto_inc.proofs.Greatest.{start_rises}
use Rattle.auto_inc.proofs.laws.start_rises.Goals as goal

pub returns : goal.returns
returns c = start_rises
