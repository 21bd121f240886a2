use Rattle.std.proofs.Common.{sym, ◌∙◌}
use Rattle.row_index.proofs.Numbered.{put_found, put_missing}
use Rattle.row_index.proofs.numbers.put_number.Goals as goal

pub returns-in-Ok : goal.returns-in-Ok
returns-in-Ok g c = put_found c.args.key.now (g.R.RowsByNumber.row_of c.args.rows.now) c.args.row.now c.args.numbers.now c.in-Ok.field-0 c.requires.can.rise c.in-Ok.ensures.found

pub returns-in-Err : goal.returns-in-Err
returns-in-Err g c =
    put_missing c.args.key.now (g.R.RowsByNumber.row_of c.args.rows.now) c.args.row.now c.args.numbers.now c.put.new.self c.in-Err.spot c.args.number c.requires.there (sym c.has_null.ensures ∙ c.if-has_null.false) c.in-Err.ensures.found c.put.ensures.numbers c.put.ensures.holds
