use Rattle.log_model.proofs.Fronts.{fronts}
use Rattle.log_model.proofs.group_laws.fronts_go_on.Goals as goal

pub returns : goal.returns
returns c = fronts
