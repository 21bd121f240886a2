use Rattle.log_file_model.proofs.Walking.{group_is_passed}
use Rattle.log_file_model.proofs.laws.group_is_passed.Goals as goal

pub returns : goal.returns
returns c = group_is_passed
