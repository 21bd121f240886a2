use Rattle.log_entry_laws.proofs.EntryLaws.{entry_fetched}
use Rattle.log_entry_laws.proofs.laws.relay_is_read.Goals as goal

pub returns : goal.returns
returns c = entry_fetched
