use Rattle.log_model.proofs.ReadAgain.{events_again}
use Rattle.log_model.proofs.writing_laws.events_are_read_again.Goals as goal

pub returns : goal.returns
returns c = events_again
