use Rattle.log_model.proofs.Scanning.{spelled_read}
use Rattle.log_model.proofs.group_laws.spelled_is_read.Goals as goal

pub returns : goal.returns
returns c = spelled_read
