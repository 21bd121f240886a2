use Rattle.log_model.proofs.Growing.{start_read, rotation_read}
use Rattle.log_model.proofs.item_laws.log_start_is_read.Goals as goal

pub returns : goal.returns
returns c = (start_read, rotation_read)
