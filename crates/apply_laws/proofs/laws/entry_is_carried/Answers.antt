use Rattle.apply_laws.proofs.Entries.{entry_is_carried}
use Rattle.apply_laws.proofs.laws.entry_is_carried.Goals as goal

pub returns : goal.returns
returns c = entry_is_carried c.statements_are_followed.ensures.followed c.statements_end_well.ensures.statements c.carried_context_stands_in.ensures
