use Rattle.log_entry_laws.proofs.EntryLaws.{few_cut}
use Rattle.log_entry_laws.proofs.laws.few_are_cut.Goals as goal

pub returns : goal.returns
returns c = few_cut
