use Rattle.std.proofs.Common.{refl}
use Rattle.sql_tree.specs.Tree.{no_part, part}
use Rattle.sql_parse_bodies.proofs.bodies.preset.Goals as goal

pub returns-then-not-is_key : goal.returns-then-not-is_key
returns-then-not-is_key c = (no_part, rw (← c.if-not-is_key.ensures) refl, c.no_part.ensures)

pub returns : goal.returns
returns c =
    let e = c.in_ok-value.ensures in
    (part e.0, rw (← c.if-not-is_key.ensures, c.in_ok-rest.ensures, e.1) refl, c.part.ensures e.0 e.2)
