use Rattle.table_rules.proofs.Storing.{keys_in_way}
use Rattle.table_rules.proofs.laws.keys_in_way_collide.Goals as goal

pub returns : goal.returns
returns c = keys_in_way
