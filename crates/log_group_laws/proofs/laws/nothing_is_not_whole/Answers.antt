use Rattle.log_group_laws.proofs.Lying.{nothing_there}
use Rattle.log_group_laws.proofs.laws.nothing_is_not_whole.Goals as goal

pub returns : goal.returns
returns c = nothing_there
