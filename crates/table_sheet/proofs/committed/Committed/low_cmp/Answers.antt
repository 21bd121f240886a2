use Rattle.value_ranges.specs.Ranges.{range_of}
use Rattle.table_sheet.proofs.Ranging.{row_low, no_row_low}
use Rattle.table_sheet.proofs.committed.Committed.low_cmp.Goals as goal

pub returns-in-Some : goal.returns-in-Some
returns-in-Some c =
    row_low c.get-table.result.now c.args.definition.now c.args.self.now.rows.rows c.args.number (range_of c.args.range).low c.in-Some.row.now c.row_is_from.result c.order_of.result
    c.get-table.ensures c.in-Some.ensures c.row_is_from.ensures c.order_of.ensures

pub returns-in-None : goal.returns-in-None
returns-in-None c =
    no_row_low c.args.definition.now c.args.self.now.rows.rows c.args.number (range_of c.args.range).low c.is_from.result c.order_of-in-None.result c.in-None.ensures c.is_from.ensures c.order_of-in-None.ensures
