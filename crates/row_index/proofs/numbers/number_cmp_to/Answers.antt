use Rattle.row_index.proofs.Numbered.{row_compared, nothing_compared}
use Rattle.row_index.proofs.numbers.number_cmp_to.Goals as goal

pub returns-in-Some : goal.returns-in-Some
returns-in-Some g c = row_compared c.args.key.now (g.R.RowsByNumber.row_of c.args.rows.now) c.args.values.now c.args.number c.in-Some.row.now c.columns_cmp.result c.in-Some.ensures c.columns_cmp.ensures

pub returns-in-None : goal.returns-in-None
returns-in-None g c = nothing_compared c.args.key.now (g.R.RowsByNumber.row_of c.args.rows.now) c.args.values.now c.args.number c.no_columns_cmp.result c.in-None.ensures c.no_columns_cmp.ensures
