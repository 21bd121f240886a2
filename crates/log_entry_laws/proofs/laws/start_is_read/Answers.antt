use Rattle.log_model.proofs.Growing.{start_read}
use Rattle.log_entry_laws.proofs.laws.start_is_read.Goals as goal

pub returns : goal.returns
returns c = start_read
