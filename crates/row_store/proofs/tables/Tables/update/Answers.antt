use Rattle.std.proofs.Common.{refl, sym, ◌∙◌}
use Rattle.table_rules.proofs.Places.{nothing_replaced}
use Rattle.row_store.proofs.Unnamed.{fits_place}
use Rattle.table_rules.proofs.Leading.{still_same}
use Rattle.row_store.proofs.tables.Tables.update.Goals as goal

pub update_at-requires : goal.update_at-requires
update_at-requires c = fits_place c.args.table.now c.args.row c.args.self.now.tables c.in-Some.at (sym c.place.ensures ∙ c.in-Some.is) c.requires

pub returns-in-None-clause-stored : goal.returns-in-None-clause-stored
returns-in-None-clause-stored c = (nothing_replaced c.args.table.now c.args.key.now c.args.row c.args.self.now.tables (sym c.place.ensures ∙ c.in-None.is), refl)

pub returns-in-None-clause-still : goal.returns-in-None-clause-still
returns-in-None-clause-still c = still_same c.args.self.now
