use Rattle.std.proofs.Common.{◌≤◌, length, ◌∙◌, arith}
use Rattle.row_store.proofs.Beside.{if_ok}
use Rattle.row_store.proofs.Shelved.{none_past}
use Rattle.row_store.proofs.Staying.{committed_here}
use Rattle.row_store.proofs.tables.Tables.committed_rows.Goals as goal

pub returns-then-at-len : goal.returns-then-at-len
returns-then-at-len c =
    let past : length c.self.inside.shelves.items ≤ c.args.at = omega arith in
    rw (← c.self.view_is) (λ name e. absurd (none_past name c.self.inside.shelves.items c.args.at past e))

pub returns : goal.returns
returns c =
    rw (← c.self.view_is)
    (λ name e. if_ok c.committed_rows.result _ _ (λ rows is. is ∙ committed_here name c.self.inside.shelves.items c.args.at c.index.result.now c.index.ensures e) c.committed_rows.ensures)
