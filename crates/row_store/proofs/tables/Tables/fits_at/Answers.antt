use Rattle.std.proofs.Common.{◌<◌, ◌≤◌, length, sym, ◌∙◌, arith}
use Rattle.row_store.proofs.Shelved.{fits_shelf_at, fits_past}
use Rattle.row_store.proofs.tables.Tables.fits_at.Goals as goal

pub returns-then-at-len : goal.returns-then-at-len
returns-then-at-len c =
    let past : length c.self.inside.shelves.items ≤ c.args.at = omega arith in
    rw (← c.self.view_is) (sym (fits_past c.args.row.now c.self.inside.shelves.items c.args.at past))

pub returns : goal.returns
returns c =
    let less : c.args.at < length c.self.inside.shelves.items = omega arith in
    rw (← c.self.view_is) (c.fits.ensures ∙ sym (fits_shelf_at c.args.row.now c.self.inside.shelves.items c.args.at c.index.result.now less c.index.ensures))
