use Rattle.std.proofs.Common.{◌-◌, List, length, ap, ◌∙◌}
use Rattle.std.specs.Prelude.{slice_get, option_copied}
use Rattle.val_types.specs.declared.value.Value.{Value}
use Rattle.row_index.specs.row_sheets.Slots.{rows_in}
use Rattle.table_sheet.specs.Pages.{rows_on}
use Rattle.table_sheet.specs.Parts.{committed_slots}
use Rattle.table_sheet.specs.Walks.{passed}
use Rattle.table_sheet.proofs.Shown.{sound}
use Rattle.table_sheet.proofs.Lasting.{last_row}
use Rattle.table_sheet.proofs.sheet.Sheet.last.Goals as goal

pub previous-requires-clause-below : goal.previous-requires-clause-below
previous-requires-clause-below c = (sound c.self.inside.definition (committed_slots c.self.inside.definition c.self.inside.committed) c.self.invariant.holds.whole).rising

pub returns : goal.returns
returns c =
    last_row (option_copied c.previous.result) (rows_in (passed c.self.inside.definition c.self.inside.committed c.self.inside.overlay c.finish-at.result)) (rows_in (passed c.self.inside.definition c.self.inside.committed c.self.inside.overlay c.previous.new.at)) c.previous.ensures.some c.previous.ensures.none
    ∙ ap (λ (rows : List (List Value)). slice_get rows (length rows - 1)) (ap rows_in (c.finish-at.ensures.all c.self.inside.definition) ∙ ap rows_on c.self.view_is)
