use Rattle.val_types.specs.Keys.{primary_key}
use Rattle.table_sheet.proofs.Slotted.{row_compared, no_row_compared}
use Rattle.table_sheet.proofs.committed.fn.Committed.find_row.compare.Goals as goal

pub returns-in-Some : goal.returns-in-Some
returns-in-Some c =
    row_compared c.get-table.result.now c.captures.definition.now c.captures.self.now.rows.rows c.args.number (λ d. primary_key d c.captures.row.now) c.in-Some.other.now c.rows_cmp.result c.get-table.ensures c.in-Some.ensures c.rows_cmp.ensures

pub returns-in-None : goal.returns-in-None
returns-in-None c =
    no_row_compared c.get-table.result.now c.captures.definition.now c.captures.self.now.rows.rows c.args.number (λ d. primary_key d c.captures.row.now) c.nothing_row_cmp.result c.get-table.ensures c.in-None.ensures c.nothing_row_cmp.ensures
