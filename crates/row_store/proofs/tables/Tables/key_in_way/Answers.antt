use Rattle.std.proofs.Common.{◌≤◌, length, ap, ◌∙◌, arith}
use Rattle.table_rules.specs.Tables.{Table}
use Rattle.table_rules.specs.Stored.{key_in_way}
use Rattle.row_store.proofs.Shelved.{none_past}
use Rattle.row_store.proofs.Walking.{table_here}
use Rattle.row_store.proofs.tables.Tables.key_in_way.Goals as goal

pub returns-then-at-len : goal.returns-then-at-len
returns-then-at-len c =
    let past : length c.self.inside.shelves.items ≤ c.args.at = omega arith in
    rw (← c.self.view_is) (λ name table e named. absurd (none_past name c.self.inside.shelves.items c.args.at past e))

pub returns : goal.returns
returns c =
    rw (← c.self.view_is)
    (λ name table e named. c.key_in_way.ensures
    ∙ ap (λ (t : Table). key_in_way t.definition c.args.row.now t.rows) (table_here name c.self.inside.shelves.items c.args.at c.index.result.now table c.index.ensures e named))
