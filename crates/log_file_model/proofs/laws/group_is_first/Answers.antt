use Rattle.log_file_model.proofs.Walking.{group_is_first}
use Rattle.log_file_model.proofs.laws.group_is_first.Goals as goal

pub returns : goal.returns
returns c = group_is_first
