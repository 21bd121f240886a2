use Rattle.value_rules.proofs.Comparing.{left_decides}
use Rattle.value_rules.proofs.laws.left_operands_decide.Goals as goal

pub returns : goal.returns
returns c = left_decides
