use Rattle.log_model.proofs.Scanning.{read_spelled}
use Rattle.log_model.proofs.group_laws.read_is_spelled.Goals as goal

pub returns : goal.returns
returns c = read_spelled
