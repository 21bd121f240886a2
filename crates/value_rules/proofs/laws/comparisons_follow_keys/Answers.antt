use Rattle.value_rules.proofs.Comparing.{compares_as_keys}
use Rattle.value_rules.proofs.laws.comparisons_follow_keys.Goals as goal

pub returns : goal.returns
returns c = compares_as_keys
