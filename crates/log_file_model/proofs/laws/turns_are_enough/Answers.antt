use Rattle.log_file_model.proofs.Walking.{turns_are_enough}
use Rattle.log_file_model.proofs.laws.turns_are_enough.Goals as goal

pub returns : goal.returns
returns c = turns_are_enough
