use Rattle.log_reader.proofs.Known.{calls_lead}
use Rattle.log_reader.proofs.laws.calls_lead.Goals as goal

pub returns : goal.returns
returns c = calls_lead
