use Rattle.std.proofs.Common.{◌<◌, ◌≤◌, length, Some, ap, ◌∙◌, arith}
use Rattle.row_store.proofs.Shelved.{definition_at, no_definition_at}
use Rattle.row_store.proofs.tables.Tables.shared_definition.Goals as goal

pub returns-then-at-len : goal.returns-then-at-len
returns-then-at-len c =
    let past : length c.self.inside.shelves.items ≤ c.args.at = omega arith in
    rw (← c.self.view_is) (no_definition_at c.self.inside.shelves.items c.args.at past)

pub returns : goal.returns
returns c =
    let less : c.args.at < length c.self.inside.shelves.items = omega arith in
    rw (← c.self.view_is) (ap Some c.shared_definition.ensures ∙ definition_at c.self.inside.shelves.items c.args.at c.index.result.now less c.index.ensures)
