use Rattle.std.proofs.Common.{◌≡◌, true, false, sym, ◌∙◌}
use Rattle.table_sheet.proofs.sheet.Sheet.remove_same.Goals as goal

pub returns-in_err-set_just-clause-absent : goal.returns-in_err-set_just-clause-absent
returns-in_err-set_just-clause-absent c = λ absent. let never : true ≡ false = sym c.in_err-set_just.ensures.failed ∙ absent in cc
