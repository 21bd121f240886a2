use Rattle.log_file_model.proofs.Walking.{others_are_damaged}
use Rattle.log_file_model.proofs.laws.others_are_damaged.Goals as goal

pub returns : goal.returns
returns c = others_are_damaged
