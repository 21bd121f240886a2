use Rattle.std.proofs.Common.{refl, sym, ◌∙◌}
use Rattle.table_rules.proofs.Places.{nothing_deleted}
use Rattle.dml_rows.proofs.by_name.delete_row.Goals as goal

pub returns-in-None-clause-stored : goal.returns-in-None-clause-stored
returns-in-None-clause-stored c = (nothing_deleted c.args.table.now c.args.key.now c.args.tables.now.tables (sym c.place.ensures ∙ c.in-None.is), refl)
