use Rattle.std.proofs.Common.{sym, ◌∙◌}
use Rattle.val_types.specs.Keys.{values_at}
use Rattle.row_index.proofs.Numbered.{missing_number, taken_missing, taken_found}
use Rattle.row_index.proofs.numbers.take_number.Goals as goal

pub returns-in-Ok : goal.returns-in-Ok
returns-in-Ok g c =
    taken_found c.args.key.now (g.R.RowsByNumber.row_of c.args.rows.now) c.args.row.now c.args.numbers.now c.take.new.self c.in-Ok.spot (sym c.has_null.ensures ∙ c.if-has_null.false) c.requires c.in-Ok.ensures.found c.take.ensures.numbers c.take.ensures.holds

pub returns-in-Err : goal.returns-in-Err
returns-in-Err g c =
    taken_missing c.args.key.now (g.R.RowsByNumber.row_of c.args.rows.now) c.args.row.now c.args.numbers.now (sym c.has_null.ensures ∙ c.if-has_null.false)
    (missing_number c.args.key.now (g.R.RowsByNumber.row_of c.args.rows.now) (values_at c.args.key.now.columns c.args.row.now) c.args.numbers.now.blocks c.in-Err.field-0 c.in-Err.ensures.found)
