use Rattle.log_file_model.proofs.Walking.{end_is_seen}
use Rattle.log_file_model.proofs.laws.end_is_seen.Goals as goal

pub returns : goal.returns
returns c = end_is_seen
