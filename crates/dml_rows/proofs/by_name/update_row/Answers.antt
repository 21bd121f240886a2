use Rattle.std.proofs.Common.{refl, sym, ◌∙◌}
use Rattle.table_rules.proofs.Places.{fits_by_place, nothing_replaced}
use Rattle.dml_rows.proofs.by_name.update_row.Goals as goal

pub update_row_at-requires : goal.update_row_at-requires
update_row_at-requires c = fits_by_place c.args.table.now c.args.row c.args.tables.now.tables c.in-Some.at (sym c.place.ensures ∙ c.in-Some.is) ∙ c.requires

pub returns-in-None-clause-stored : goal.returns-in-None-clause-stored
returns-in-None-clause-stored c = (nothing_replaced c.args.table.now c.args.key.now c.args.row c.args.tables.now.tables (sym c.place.ensures ∙ c.in-None.is), refl)
