use Rattle.log_entry_laws.proofs.EntryLaws.{start_fetched}
use Rattle.log_entry_laws.proofs.laws.start_relay_is_read.Goals as goal

pub returns : goal.returns
returns c = start_fetched
