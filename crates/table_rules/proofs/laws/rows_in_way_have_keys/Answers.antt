use Rattle.table_rules.proofs.InWay.{row_in_way_has_key}
use Rattle.table_rules.proofs.laws.rows_in_way_have_keys.Goals as goal

pub returns : goal.returns
returns c = row_in_way_has_key
