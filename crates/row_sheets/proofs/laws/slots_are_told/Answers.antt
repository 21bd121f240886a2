use Rattle.row_sheets.proofs.Held.{slots_told, held-over, rises-over}
use Rattle.row_sheets.proofs.laws.slots_are_told.Goals as goal

pub returns-clause-rises : goal.returns-clause-rises
returns-clause-rises c = rises-over

pub returns-clause-found : goal.returns-clause-found
returns-clause-found c = held-over

pub returns-clause-told : goal.returns-clause-told
returns-clause-told c = slots_told
