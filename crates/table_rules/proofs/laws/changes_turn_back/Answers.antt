use Rattle.table_rules.proofs.Taking.{tables_reversible}
use Rattle.table_rules.proofs.laws.changes_turn_back.Goals as goal

pub returns : goal.returns
returns c = tables_reversible
