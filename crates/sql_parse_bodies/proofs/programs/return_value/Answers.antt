use Rattle.std.proofs.Common.{refl}
use Rattle.sql_tree.specs.Statement.{return_value}
use Rattle.sql_parse_bodies.proofs.ProgramNodes.{return_kept}
use Rattle.sql_parse_bodies.proofs.programs.return_value.Goals as goal

pub returns : goal.returns
returns c =
    let v = c.in_ok-value.ensures in
    (return_value v.0, rw (c.in_ok-rest.ensures, v.1) refl, rw c.in_ok-returned.ensures (return_kept v.0 c.in_ok-value.value v.2))
