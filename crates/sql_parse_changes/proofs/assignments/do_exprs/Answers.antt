use Rattle.std.proofs.Common.{refl}
use Rattle.sql_tree.specs.Statement.{evaluate}
use Rattle.sql_parse_changes.proofs.AssignmentNodes.{do_kept}
use Rattle.sql_parse_changes.proofs.assignments.do_exprs.Goals as goal

pub returns : goal.returns
returns c =
    let v = c.in_ok-values.ensures in
    (evaluate v.0, rw (c.in_ok-rest.ensures, v.1) refl, rw c.evaluated.ensures (do_kept v.0 c.in_ok-values.values v.2))
