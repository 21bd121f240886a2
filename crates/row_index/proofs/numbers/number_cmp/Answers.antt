use Rattle.val_types.specs.Keys.{values_at}
use Rattle.row_index.proofs.Numbered.{row_compared, nothing_compared}
use Rattle.row_index.proofs.numbers.number_cmp.Goals as goal

pub returns-in-Some : goal.returns-in-Some
returns-in-Some g c = row_compared c.args.key.now (g.R.RowsByNumber.row_of c.args.rows.now) (values_at c.args.key.now.columns c.args.row.now) c.args.number c.in-Some.other.now c.values_cmp.result c.in-Some.ensures c.values_cmp.ensures

pub returns-in-None : goal.returns-in-None
returns-in-None g c = nothing_compared c.args.key.now (g.R.RowsByNumber.row_of c.args.rows.now) (values_at c.args.key.now.columns c.args.row.now) c.args.number c.nothing_cmp.result c.in-None.ensures c.nothing_cmp.ensures
