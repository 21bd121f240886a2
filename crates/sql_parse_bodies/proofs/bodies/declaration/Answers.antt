use Rattle.std.proofs.Common.{refl}
use Rattle.sql_syntax.specs.Programs.{declared_as}
use Rattle.sql_parse_bodies.proofs.ProgramNodes.{declaration_kept}
use Rattle.sql_parse_bodies.proofs.bodies.declaration.Goals as goal

pub returns : goal.returns
returns c =
    let p = c.in_ok-preset.ensures in
    let ns = c.in_ok-names.names in
    let k = c.in_ok-kind.kind in (
      declared_as ns (k, p.0),
      rw (c.in_ok-rest.ensures, c.in_ok-names.ensures, c.in_ok-kind.ensures, p.1, c.in_ok-rest-2.ensures) refl,
      rw c.declared.ensures (declaration_kept ns k p.0 c.in_ok-preset.preset p.2),
    )
