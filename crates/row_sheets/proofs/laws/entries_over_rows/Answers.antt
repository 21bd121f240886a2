use Rattle.row_sheets.proofs.Over.{reset, new_slot, in_place}
use Rattle.row_sheets.proofs.laws.entries_over_rows.Goals as goal

pub returns-clause-set : goal.returns-clause-set
returns-clause-set c = reset

pub returns-clause-new : goal.returns-clause-new
returns-clause-new c = new_slot

pub returns-clause-hidden : goal.returns-clause-hidden
returns-clause-hidden c = in_place
