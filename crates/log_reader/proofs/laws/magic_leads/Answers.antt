use Rattle.log_reader.proofs.Known.{magic_leads}
use Rattle.log_reader.proofs.laws.magic_leads.Goals as goal

pub returns : goal.returns
returns c = magic_leads
