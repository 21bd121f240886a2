use Rattle.std.proofs.Common.{refl}
use Rattle.sql_tree.specs.Statement.{delete_rows}
use Rattle.sql_parse_changes.proofs.ChangeNodes.{delete_kept}
use Rattle.sql_parse_changes.proofs.changes.delete.Goals as goal

pub returns : goal.returns
returns c =
    let w = c.in_ok-filter.ensures in
    let o = c.in_ok-order.ensures in
    let t = c.in_ok-table.table in
    let l = c.in_ok-limit.limit in (
      delete_rows t w.0 o.0 l,
      rw (c.in_ok-rest.ensures, c.in_ok-rest-2.ensures, c.in_ok-table.ensures, w.1, o.1, c.in_ok-limit.ensures) refl,
      rw c.deleted.ensures (delete_kept t l w.0 o.0 c.in_ok-filter.filter c.in_ok-order.order w.2 o.2),
    )
