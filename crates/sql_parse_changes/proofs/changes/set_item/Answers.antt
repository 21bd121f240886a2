use Rattle.std.proofs.Common.{refl}
use Rattle.sql_parse_changes.proofs.ChangeNodes.{set_kept}
use Rattle.sql_parse_changes.proofs.changes.set_item.Goals as goal

pub returns : goal.returns
returns c =
    let v = c.in_ok-value.ensures in
    ((c.in_ok-column.column, v.0), rw (c.in_ok-column.ensures, c.in_ok-rest.ensures, v.1) refl, rw c.column_set.ensures (set_kept c.in_ok-column.column v.0 c.in_ok-value.value v.2))
