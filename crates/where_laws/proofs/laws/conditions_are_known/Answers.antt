use Rattle.where_laws.proofs.Known.{known_is_so}
use Rattle.where_laws.proofs.laws.conditions_are_known.Goals as goal

pub returns : goal.returns
returns c = known_is_so
