use Rattle.log_file_model.proofs.Walking.{all_from_four}
use Rattle.log_file_model.proofs.laws.all_from_four.Goals as goal

pub returns : goal.returns
returns c = all_from_four
