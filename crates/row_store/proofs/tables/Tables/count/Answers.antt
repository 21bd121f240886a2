use Rattle.std.proofs.Common.{◌≤◌, length, ap, ◌∙◌, arith}
use Rattle.row_store.proofs.Shelved.{none_past}
use Rattle.row_store.proofs.Walking.{rows_here}
use Rattle.row_store.proofs.tables.Tables.count.Goals as goal

pub returns-then-at-len : goal.returns-then-at-len
returns-then-at-len c =
    let past : length c.self.inside.shelves.items ≤ c.args.at = omega arith in
    rw (← c.self.view_is) (λ name e. absurd (none_past name c.self.inside.shelves.items c.args.at past e))

pub returns : goal.returns
returns c =
    rw (← c.self.view_is)
    (λ name e. c.count.ensures ∙ ap length (rows_here name c.self.inside.shelves.items c.args.at c.index.result.now c.index.ensures e))
