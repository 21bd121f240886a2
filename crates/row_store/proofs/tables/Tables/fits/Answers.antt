use Rattle.std.proofs.Common.{sym, ◌∙◌}
use Rattle.table_rules.proofs.Places.{fits_by_place, all_fit}
use Rattle.row_store.proofs.tables.Tables.fits.Goals as goal

pub returns-in-Some : goal.returns-in-Some
returns-in-Some c = c.fits_at.ensures ∙ fits_by_place c.args.table.now c.args.row.now c.args.self.now.tables c.in-Some.at (sym c.place.ensures ∙ c.in-Some.is)

pub returns-in-None : goal.returns-in-None
returns-in-None c = sym (all_fit c.args.table.now c.args.row.now c.args.self.now.tables (sym c.place.ensures ∙ c.in-None.is))
