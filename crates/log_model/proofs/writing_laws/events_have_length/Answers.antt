use Rattle.log_model.proofs.ReadAgain.{length-bytes_of}
use Rattle.log_model.proofs.writing_laws.events_have_length.Goals as goal

pub returns : goal.returns
returns c = length-bytes_of
