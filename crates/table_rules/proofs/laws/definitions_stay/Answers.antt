use Rattle.table_rules.proofs.Storing.{definitions_kept}
use Rattle.table_rules.proofs.laws.definitions_stay.Goals as goal

pub returns : goal.returns
returns c = definitions_kept
