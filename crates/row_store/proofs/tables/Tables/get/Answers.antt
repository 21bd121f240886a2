use Rattle.std.proofs.Common.{sym, ◌∙◌}
use Rattle.table_rules.proofs.Places.{no_row}
use Rattle.row_store.proofs.tables.Tables.get.Goals as goal

pub returns-in-None : goal.returns-in-None
returns-in-None c = sym (no_row c.args.table.now c.args.key.now c.args.self.now.tables (sym c.place.ensures ∙ c.in-None.is))
