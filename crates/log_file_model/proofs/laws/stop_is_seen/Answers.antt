use Rattle.log_file_model.proofs.Walking.{stop_is_seen}
use Rattle.log_file_model.proofs.laws.stop_is_seen.Goals as goal

pub returns : goal.returns
returns c = stop_is_seen
