use Rattle.std.proofs.Common.{◌≤◌, length, Some, ap, ◌∙◌, arith}
use Rattle.std.specs.Prelude.{find}
use Rattle.table_rules.specs.Tables.{Table}
use Rattle.table_rules.specs.Stored.{has_key_in_way}
use Rattle.row_store.proofs.Shelved.{none_past}
use Rattle.row_store.proofs.Walking.{table_here}
use Rattle.row_store.proofs.tables.Tables.row_on_key.Goals as goal

pub returns-then-at-len : goal.returns-then-at-len
returns-then-at-len c =
    let past : length c.self.inside.shelves.items ≤ c.args.at = omega arith in
    rw (← c.self.view_is) (λ name table e named. absurd (none_past name c.self.inside.shelves.items c.args.at past e))

pub returns-in-Some : goal.returns-in-Some
returns-in-Some c =
    rw (← c.self.view_is)
    (λ name table e named. ap Some c.get.ensures ∙ c.in-Some.ensures
    ∙ ap (λ (t : Table). find (has_key_in_way t.definition c.args.row.now c.args.which) t.rows) (table_here name c.self.inside.shelves.items c.args.at c.index.result.now table c.index.ensures e named))

pub returns-in-None : goal.returns-in-None
returns-in-None c =
    rw (← c.self.view_is)
    (λ name table e named. c.in-None.ensures
    ∙ ap (λ (t : Table). find (has_key_in_way t.definition c.args.row.now c.args.which) t.rows) (table_here name c.self.inside.shelves.items c.args.at c.index.result.now table c.index.ensures e named))
