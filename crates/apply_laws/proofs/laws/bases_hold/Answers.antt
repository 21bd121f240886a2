use Rattle.apply_laws.proofs.Bases.{bases_hold}
use Rattle.apply_laws.proofs.laws.bases_hold.Goals as goal

pub returns : goal.returns
returns c = bases_hold
