use Rattle.std.proofs.Common.{refl}
use Rattle.sql_syntax.specs.Programs.{with_body}
use Rattle.sql_parse.proofs.statements.created.Goals as goal

pub returns : goal.returns
returns c =
    let b = c.in_ok-body.ensures in
    (with_body c.in_ok-head.head b.0, rw (c.in_ok-head.ensures, b.1) refl, rw c.unboxed.ensures (c.in_ok-program.ensures b.0 b.2))
