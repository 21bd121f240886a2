use Rattle.log_model.proofs.Carrying.{item_spelled}
use Rattle.log_model.proofs.item_laws.item_is_spelled.Goals as goal

pub returns : goal.returns
returns c = item_spelled
