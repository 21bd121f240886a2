use Rattle.log_file_model.proofs.Walking.{front_is_passed}
use Rattle.log_file_model.proofs.laws.front_is_passed.Goals as goal

pub returns : goal.returns
returns c = front_is_passed
