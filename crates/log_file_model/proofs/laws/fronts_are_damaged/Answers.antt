use Rattle.log_file_model.proofs.Walking.{fronts_are_damaged}
use Rattle.log_file_model.proofs.laws.fronts_are_damaged.Goals as goal

pub returns : goal.returns
returns c = fronts_are_damaged
