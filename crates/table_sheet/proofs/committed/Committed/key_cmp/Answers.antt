use Rattle.table_sheet.proofs.Slotted.{row_compared, no_row_compared}
use Rattle.table_sheet.proofs.committed.Committed.key_cmp.Goals as goal

pub returns-in-Some : goal.returns-in-Some
returns-in-Some c =
    row_compared c.get-table.result.now c.args.definition.now c.args.self.now.rows.rows c.args.number (λ d. c.args.key.now) c.in-Some.row.now c.columns_cmp.result c.get-table.ensures c.in-Some.ensures c.columns_cmp.ensures

pub returns-in-None : goal.returns-in-None
returns-in-None c =
    no_row_compared c.get-table.result.now c.args.definition.now c.args.self.now.rows.rows c.args.number (λ d. c.args.key.now) c.no_columns_cmp.result c.get-table.ensures c.in-None.ensures c.no_columns_cmp.ensures
