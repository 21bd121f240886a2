use Rattle.name_const_laws.proofs.Checks.{is_allowed}
use Rattle.name_const_laws.proofs.laws.closed_is_allowed.Goals as goal

pub returns : goal.returns
returns c = is_allowed
