use Rattle.log_model.proofs.Growing.{goes_on}
use Rattle.log_model.proofs.item_laws.log_goes_on.Goals as goal

pub returns : goal.returns
returns c = goes_on
