use Rattle.auto_inc.proofs.Congruent.{least_is_least}
use Rattle.auto_inc.proofs.laws.least_congruent_is_least.Goals as goal

pub returns : goal.returns
returns c = least_is_least
