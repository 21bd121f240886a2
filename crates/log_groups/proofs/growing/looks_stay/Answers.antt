use Rattle.log_groups.proofs.Looks.{looks_stay}
use Rattle.log_groups.proofs.growing.looks_stay.Goals as goal

pub returns : goal.returns
returns c = looks_stay
