use Rattle.key_order.proofs.Extremes.{lowest_is_first, highest_is_last}
use Rattle.key_order.proofs.laws.extremes_stand_outside.Goals as goal

pub returns-clause-lowest : goal.returns-clause-lowest
returns-clause-lowest c = lowest_is_first

pub returns-clause-highest : goal.returns-clause-highest
returns-clause-highest c = highest_is_last
