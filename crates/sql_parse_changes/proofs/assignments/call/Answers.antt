use Rattle.std.proofs.Common.{refl}
use Rattle.sql_tree.specs.Statement.{call_procedure}
use Rattle.sql_parse_changes.proofs.AssignmentNodes.{call_kept}
use Rattle.sql_parse_changes.proofs.assignments.call.Goals as goal

pub returns : goal.returns
returns c =
    let v = c.in_ok-values.ensures in
    let n = c.in_ok-name.name in
    (call_procedure n v.0, rw (c.in_ok-rest.ensures, c.in_ok-name.ensures, v.1) refl, rw c.called.ensures (call_kept n v.0 c.in_ok-values.values v.2))
