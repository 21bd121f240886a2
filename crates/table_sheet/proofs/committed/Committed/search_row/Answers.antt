use Rattle.std.specs.Prelude.{option_copied}
use Rattle.row_index.proofs.of_row_sheets.Orders.{missing_at}
use Rattle.table_sheet.specs.Numbered.{row_slot}
use Rattle.table_sheet.proofs.Looking.{found_row}
use Rattle.table_sheet.proofs.committed.Committed.search_row.Goals as goal

pub returns-in-Ok-clause-row : goal.returns-in-Ok-clause-row
returns-in-Ok-clause-row g c =
    found_row c.args.definition.now c.args.key.now c.args.self.now.rows.rows c.args.self.now.order.blocks c.in-Ok.spot (option_copied c.at.result) c.requires c.args.self.now.numbered c.in-Ok.ensures.found c.at.ensures

pub returns-in-Err-clause-row : goal.returns-in-Err-clause-row
returns-in-Err-clause-row g c = missing_at (row_slot c.args.definition.now c.args.self.now.rows.rows) c.args.key.now c.args.self.now.order.blocks c.in-Err.field-0 c.in-Err.ensures.found
