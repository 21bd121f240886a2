use Rattle.std.proofs.Common.{refl, sym, ◌∙◌}
use Rattle.table_rules.proofs.Places.{fits_by_place, nothing_inserted}
use Rattle.dml_rows.proofs.by_name.insert_row.Goals as goal

pub insert_row_at-requires : goal.insert_row_at-requires
insert_row_at-requires c = fits_by_place c.args.table.now c.args.row c.args.tables.now.tables c.in-Some.at (sym c.place.ensures ∙ c.in-Some.is) ∙ c.requires

pub returns-in-None-clause-stored : goal.returns-in-None-clause-stored
returns-in-None-clause-stored c = (nothing_inserted c.args.table.now c.args.row c.args.tables.now.tables (sym c.place.ensures ∙ c.in-None.is), refl)
