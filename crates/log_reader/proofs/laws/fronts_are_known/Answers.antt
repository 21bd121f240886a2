use Rattle.log_reader.proofs.Known.{fronts_are_known}
use Rattle.log_reader.proofs.laws.fronts_are_known.Goals as goal

pub returns : goal.returns
returns c = fronts_are_known
