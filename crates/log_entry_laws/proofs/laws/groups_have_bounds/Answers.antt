use Rattle.log_entry_laws.proofs.EntryLaws.{bounds}
use Rattle.log_entry_laws.proofs.laws.groups_have_bounds.Goals as goal

pub returns : goal.returns
returns c = bounds
