use Rattle.log_entry_laws.proofs.EntryLaws.{entry_cut}
use Rattle.log_entry_laws.proofs.laws.entry_is_cut.Goals as goal

pub returns : goal.returns
returns c = entry_cut
