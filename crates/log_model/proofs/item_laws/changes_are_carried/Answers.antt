use Rattle.log_model.proofs.Carrying.{carried}
use Rattle.log_model.proofs.item_laws.changes_are_carried.Goals as goal

pub returns : goal.returns
returns c = carried
