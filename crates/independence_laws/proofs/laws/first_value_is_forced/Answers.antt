use Rattle.independence_laws.proofs.Followed.{first_value_forced}
use Rattle.independence_laws.proofs.laws.first_value_is_forced.Goals as goal

pub returns : goal.returns
returns c = first_value_forced
