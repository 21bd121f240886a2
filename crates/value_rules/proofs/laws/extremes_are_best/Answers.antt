use Rattle.value_rules.proofs.Extremes.{extremes_are_best}
use Rattle.value_rules.proofs.laws.extremes_are_best.Goals as goal

pub returns : goal.returns
returns c = extremes_are_best
