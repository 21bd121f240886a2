use Rattle.std.proofs.Common.{refl}
use Rattle.sql_tree.specs.Statement.{replace_into}
use Rattle.sql_parse_changes.proofs.ChangeNodes.{replace_kept}
use Rattle.sql_parse_changes.proofs.changes.replace.Goals as goal

pub returns : goal.returns
returns c =
    let s = c.in_ok-source.ensures in
    let t = c.in_ok-table.table in
    let cs = c.in_ok-columns.columns in
    (replace_into t cs s.0, rw (c.in_ok-rest.ensures, c.in_ok-table.ensures, c.in_ok-columns.ensures, s.1) refl, rw c.replaced.ensures (replace_kept t cs s.0 c.in_ok-source.source s.2))
