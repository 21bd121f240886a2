use Rattle.counting_laws.proofs.Counts.{levels_keep}
use Rattle.counting_laws.proofs.laws.levels_keep_changes.Goals as goal

pub returns : goal.returns
returns c = levels_keep
