use Rattle.log_file_model.proofs.Walking.{nothing_behind_names}
use Rattle.log_file_model.proofs.laws.nothing_behind_names.Goals as goal

pub returns : goal.returns
returns c = nothing_behind_names
