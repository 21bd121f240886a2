use Rattle.value_ranges.specs.Ranges.{range_of}
use Rattle.table_sheet.proofs.Ranging.{entry_low, no_entry_low}
use Rattle.table_sheet.proofs.overlay.Overlay.low_cmp.Goals as goal

pub returns-in-Some : goal.returns-in-Some
returns-in-Some c =
    entry_low c.get-table.result.now c.args.definition.now c.args.self.now.entries.items c.args.number (range_of c.args.range).low c.in-Some.entry.now c.get-bearer.result.now c.row_is_from.result c.order_of.result
    c.get-table.ensures c.get-bearer.ensures c.in-Some.ensures c.row_is_from.ensures c.order_of.ensures

pub returns-in-None : goal.returns-in-None
returns-in-None c =
    no_entry_low c.args.definition.now c.args.self.now.entries.items c.args.number (range_of c.args.range).low c.is_from.result c.order_of-in-None.result c.in-None.ensures c.is_from.ensures c.order_of-in-None.ensures
