use Rattle.log_group_laws.proofs.Staying.{group_stays}
use Rattle.log_group_laws.proofs.laws.groups_stay.Goals as goal

pub returns : goal.returns
returns c = group_stays
