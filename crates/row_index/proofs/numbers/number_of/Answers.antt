use Rattle.val_types.specs.Keys.{values_at}
use Rattle.row_index.proofs.Numbered.{found_number, missing_number}
use Rattle.row_index.proofs.numbers.number_of.Goals as goal

pub returns-in-Ok : goal.returns-in-Ok
returns-in-Ok g c = found_number c.args.key.now (g.R.RowsByNumber.row_of c.args.rows.now) (values_at c.args.key.now.columns c.args.row.now) c.args.numbers.now.blocks c.in-Ok.spot c.get.result c.requires c.in-Ok.ensures.found c.get.ensures

pub returns-in-Err : goal.returns-in-Err
returns-in-Err g c = missing_number c.args.key.now (g.R.RowsByNumber.row_of c.args.rows.now) (values_at c.args.key.now.columns c.args.row.now) c.args.numbers.now.blocks c.in-Err.field-0 c.in-Err.ensures.found
