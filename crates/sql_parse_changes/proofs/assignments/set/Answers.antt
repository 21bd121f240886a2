use Rattle.std.proofs.Common.{refl}
use Rattle.sql_tree.specs.Statement.{set_all}
use Rattle.sql_parse_changes.proofs.AssignmentNodes.{set_kept}
use Rattle.sql_parse_changes.proofs.assignments.set.Goals as goal

pub returns : goal.returns
returns c =
    let v = c.in_ok-items.ensures in
    (set_all v.0, rw (c.in_ok-rest.ensures, v.1) refl, rw c.set_all.ensures (set_kept v.0 c.in_ok-items.items v.2))
