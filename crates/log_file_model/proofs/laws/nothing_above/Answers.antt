use Rattle.log_file_model.proofs.Walking.{nothing_above}
use Rattle.log_file_model.proofs.laws.nothing_above.Goals as goal

pub returns : goal.returns
returns c = nothing_above
