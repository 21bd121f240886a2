use Rattle.std.proofs.Common.{refl}
use Rattle.sql_tree.specs.Statement.{update_rows}
use Rattle.sql_parse_changes.proofs.ChangeNodes.{update_kept}
use Rattle.sql_parse_changes.proofs.changes.update.Goals as goal

pub returns : goal.returns
returns c =
    let s = c.in_ok-sets.ensures in
    let w = c.in_ok-filter.ensures in
    let o = c.in_ok-order.ensures in
    let t = c.in_ok-table.table in
    let l = c.in_ok-limit.limit in (
      update_rows t s.0 w.0 o.0 l,
      rw (c.in_ok-rest.ensures, c.in_ok-table.ensures, c.in_ok-rest-2.ensures, s.1, w.1, o.1, c.in_ok-limit.ensures) refl,
      rw c.updated.ensures (update_kept t l s.0 w.0 o.0 c.in_ok-sets.sets c.in_ok-filter.filter c.in_ok-order.order s.2 w.2 o.2),
    )
