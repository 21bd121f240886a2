use Rattle.table_rules.proofs.Storing.{inserts_where, replaces_where, deletes_there}
use Rattle.table_rules.proofs.laws.refusals_are_exact.Goals as goal

pub returns : goal.returns
returns c = record { inserts = inserts_where; replaces = replaces_where; deletes = deletes_there }
