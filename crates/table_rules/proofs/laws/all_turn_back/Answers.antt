use Rattle.table_rules.proofs.Storing.{turn_back}
use Rattle.table_rules.proofs.laws.all_turn_back.Goals as goal

pub returns : goal.returns
returns c = turn_back
