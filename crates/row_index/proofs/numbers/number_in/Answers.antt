use Rattle.row_index.proofs.Numbered.{found_number, missing_number}
use Rattle.row_index.proofs.numbers.number_in.Goals as goal

pub returns-in-Ok-clause-number : goal.returns-in-Ok-clause-number
returns-in-Ok-clause-number g c = found_number c.args.key.now (g.R.RowsByNumber.row_of c.args.rows.now) c.args.values.now c.args.numbers.now.blocks c.in-Ok.spot c.get.result c.requires c.in-Ok.ensures.found c.get.ensures

pub returns-in-Err-clause-number : goal.returns-in-Err-clause-number
returns-in-Err-clause-number g c = missing_number c.args.key.now (g.R.RowsByNumber.row_of c.args.rows.now) c.args.values.now c.args.numbers.now.blocks c.in-Err.field-0 c.in-Err.ensures.found
