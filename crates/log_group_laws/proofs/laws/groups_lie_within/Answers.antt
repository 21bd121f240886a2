use Rattle.log_group_laws.proofs.Lying.{group_lies}
use Rattle.log_group_laws.proofs.laws.groups_lie_within.Goals as goal

pub returns : goal.returns
returns c = group_lies
