use Rattle.log_entry_laws.proofs.EntryLaws.{entry_read}
use Rattle.log_entry_laws.proofs.laws.entry_is_read.Goals as goal

pub returns : goal.returns
returns c = entry_read
