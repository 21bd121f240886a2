use Rattle.log_model.proofs.ReadAgain.{transaction_again}
use Rattle.log_model.proofs.writing_laws.transaction_is_read_again.Goals as goal

pub returns : goal.returns
returns c = transaction_again
