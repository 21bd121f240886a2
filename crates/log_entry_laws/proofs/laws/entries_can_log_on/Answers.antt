use Rattle.log_entry_laws.proofs.EntryLaws.{can_on, can_both}
use Rattle.log_entry_laws.proofs.laws.entries_can_log_on.Goals as goal

pub returns : goal.returns
returns c = (can_on, can_both)
