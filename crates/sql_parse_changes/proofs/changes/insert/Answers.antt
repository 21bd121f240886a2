use Rattle.std.proofs.Common.{refl}
use Rattle.sql_tree.specs.Statement.{insert_into}
use Rattle.sql_parse_changes.proofs.ChangeNodes.{insert_kept}
use Rattle.sql_parse_changes.proofs.changes.insert.Goals as goal

pub returns : goal.returns
returns c =
    let s = c.in_ok-source.ensures in
    let u = c.in_ok-update.ensures in
    let i = c.in_ok-ignore.ignore in
    let t = c.in_ok-table.table in
    let cs = c.in_ok-columns.columns in (
      insert_into i t cs s.0 u.0,
      rw (c.in_ok-rest.ensures, c.in_ok-ignore.ensures, c.in_ok-table.ensures, c.in_ok-columns.ensures, s.1, u.1) refl,
      rw c.inserted.ensures (insert_kept i t cs s.0 u.0 c.in_ok-source.source c.in_ok-update.update s.2 u.2),
    )
