use Rattle.where_laws.proofs.Sides.{sides_are_so}
use Rattle.where_laws.proofs.laws.sides_are_known.Goals as goal

pub returns : goal.returns
returns c = sides_are_so
