use Rattle.log_reader.proofs.Known.{front_leads}
use Rattle.log_reader.proofs.laws.front_leads.Goals as goal

pub returns : goal.returns
returns c = front_leads
