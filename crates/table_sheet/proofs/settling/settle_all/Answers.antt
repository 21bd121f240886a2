use Rattle.std.proofs.Common.{List, subst}
use Rattle.row_index.specs.row_sheets.Slots.{Slot, rows_in}
use Rattle.row_index.specs.row_sheets.Over.{over}
use Rattle.table_sheet.specs.Parts.{committed_slots}
use Rattle.table_sheet.specs.Settling.{hiding}
use Rattle.table_sheet.specs.Indexed.{IsBelow}
use Rattle.table_sheet.proofs.settling.settle_all.Goals as goal

pub returns-clause-below : goal.returns-clause-below
returns-clause-below c =
    subst (λ (es : List Slot). IsBelow c.args.definition.now c.settle_first.new.committed (rows_in (over (hiding es) (committed_slots c.args.definition.now c.settle_first.new.committed)))) (c.settle_first.ensures.none c.loop-test.false) c.settle_first.ensures.hides.below
