use Rattle.val_types.specs.Keys.{primary_key}
use Rattle.table_sheet.proofs.Slotted.{entry_compared, no_entry_compared}
use Rattle.table_sheet.proofs.overlay.Overlay.row_cmp.Goals as goal

pub returns-in-Some : goal.returns-in-Some
returns-in-Some c =
    entry_compared c.get-table.result.now c.args.definition.now c.args.self.now.entries.items c.args.number (λ d. primary_key d c.args.row.now) c.in-Some.entry.now c.get-bearer.result.now c.rows_cmp.result c.get-table.ensures c.get-bearer.ensures c.in-Some.ensures c.rows_cmp.ensures

pub returns-in-None : goal.returns-in-None
returns-in-None c =
    no_entry_compared c.get-table.result.now c.args.definition.now c.args.self.now.entries.items c.args.number (λ d. primary_key d c.args.row.now) c.nothing_row_cmp.result c.get-table.ensures c.in-None.ensures c.nothing_row_cmp.ensures
