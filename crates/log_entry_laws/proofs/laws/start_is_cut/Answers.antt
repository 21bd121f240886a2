use Rattle.log_entry_laws.proofs.EntryLaws.{start_cut}
use Rattle.log_entry_laws.proofs.laws.start_is_cut.Goals as goal

pub returns : goal.returns
returns c = start_cut
