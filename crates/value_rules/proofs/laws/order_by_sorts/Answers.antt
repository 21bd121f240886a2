use Rattle.value_rules.specs.Selecting.{key_before}
use Rattle.value_rules.proofs.Orders.{key_ranks}
use Rattle.value_rules.proofs.Sorting.{sorts}
use Rattle.value_rules.proofs.laws.order_by_sorts.Goals as goal

pub returns : goal.returns
returns g c = λ key downs rows. sorts (key_before key downs) (key_ranks key downs) rows
