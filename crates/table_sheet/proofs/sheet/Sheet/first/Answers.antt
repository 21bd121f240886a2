use Rattle.std.proofs.Common.{List, ap, ◌∙◌}
use Rattle.std.specs.Prelude.{slice_get, option_copied}
use Rattle.row_index.specs.row_sheets.Slots.{Slot, rows_in}
use Rattle.table_sheet.specs.Pages.{Page, rows_on}
use Rattle.table_sheet.specs.Walks.{left}
use Rattle.table_sheet.proofs.Passing.{first_row}
use Rattle.table_sheet.proofs.sheet.Sheet.first.Goals as goal

pub returns : goal.returns
returns c =
    first_row (option_copied c.next.result) (left c.self.inside.definition c.self.inside.committed c.self.inside.overlay c.start-at.result) (left c.self.inside.definition c.self.inside.committed c.self.inside.overlay c.next.new.at) c.next.ensures.some c.next.ensures.none
    ∙ ap (λ (ss : List Slot). slice_get (rows_in ss) 0) (c.start-at.ensures.all c.self.inside.definition)
    ∙ ap (λ (p : Page). slice_get (rows_on p) 0) c.self.view_is
