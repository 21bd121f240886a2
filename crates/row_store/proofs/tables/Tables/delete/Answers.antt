use Rattle.std.proofs.Common.{rules, ◌≡◌, None, refl, sym, ◌∙◌}
use Rattle.table_rules.specs.Stored.{row_at}
use Rattle.table_rules.proofs.Equations.{not_deleted}
use Rattle.table_rules.proofs.Places.{nothing_deleted}
use Rattle.table_rules.proofs.Leading.{still_same}
use Rattle.row_store.proofs.tables.Tables.delete.Goals as goal

pub returns-in_default-clause-stored : goal.returns-in_default-clause-stored
returns-in_default-clause-stored c = (nothing_deleted c.args.table.now c.args.key.now c.args.self.now.tables (sym c.place.ensures ∙ c.in_default.is), refl)

pub returns-in-None-clause-stored : goal.returns-in-None-clause-stored
returns-in-None-clause-stored c =
    let none : row_at c.args.table.now c.args.key.now c.args.self.now.tables ≡ None = search rules in
    (not_deleted c.args.table.now c.args.key.now c.args.self.now.tables none, refl)

pub returns-in_default-clause-still : goal.returns-in_default-clause-still
returns-in_default-clause-still c = still_same c.args.self.now

pub returns-in_err-row-in-Some-get_at-clause-still : goal.returns-in_err-row-in-Some-get_at-clause-still
returns-in_err-row-in-Some-get_at-clause-still c = still_same c.args.self.now

pub returns-in-None-clause-still : goal.returns-in-None-clause-still
returns-in-None-clause-still c = still_same c.args.self.now
