use Rattle.value_rules.proofs.Comparing.{null_safe_is_equality}
use Rattle.value_rules.proofs.laws.null_safe_equality_is_equality.Goals as goal

pub returns : goal.returns
returns c = null_safe_is_equality
