-- What holds of the rows on the sheet of a table.
use Rattle.std.specs.Prelude.{◌≡◌, IsTrue}
use Rattle.table_sheet.specs.row_sheets.Slots.{rows_in, row_slots, rows_are_kept}
use Rattle.table_sheet.specs.Pages.{Page, rows_on}

-- the rows that are shown, and those that are there to stay, are as those of a table have to be; and the latter stand in slots of
-- their own keys
pub record HoldsRows (page : Page) : Type 0 where
  pub shown : IsTrue (rows_are_kept page.definition (rows_on page))
  pub committed : IsTrue (rows_are_kept page.definition (rows_in page.committed))
  pub own : page.committed ≡ row_slots page.definition (rows_in page.committed)
