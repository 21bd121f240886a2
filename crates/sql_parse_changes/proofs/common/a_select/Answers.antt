use Rattle.std.proofs.Common.{refl}
use Rattle.sql_tree.specs.Statement.{select}
use Rattle.sql_parse_changes.proofs.ChangeNodes.{select_kept}
use Rattle.sql_parse_changes.proofs.common.a_select.Goals as goal

pub returns : goal.returns
returns c =
    let q = c.in_ok-query.ensures in
    (select q.0, rw q.1 refl, rw c.selected.ensures (select_kept q.0 c.in_ok-query.query q.2))
