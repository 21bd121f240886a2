use Rattle.run_laws.proofs.Following.{all_carried_is_equal}
use Rattle.run_laws.proofs.laws.all_carried_is_equal.Goals as goal

pub returns : goal.returns
returns c = all_carried_is_equal
