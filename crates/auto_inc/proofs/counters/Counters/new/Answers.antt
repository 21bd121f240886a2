use Rattle.auto_inc.proofs.Places.{one_each_of_none}
use Rattle.auto_inc.proofs.counters.Counters.new.Goals as goal

pub invariant_of-result : goal.invariant_of-result
invariant_of-result c = rw c.new.ensures.items one_each_of_none
