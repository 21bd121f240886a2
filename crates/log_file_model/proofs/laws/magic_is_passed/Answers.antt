use Rattle.log_file_model.proofs.Walking.{magic_is_passed}
use Rattle.log_file_model.proofs.laws.magic_is_passed.Goals as goal

pub returns : goal.returns
returns c = magic_is_passed
