use Rattle.std.proofs.Common.{true, refl, arith}
use Rattle.sql_parse_changes.proofs.AssignmentNodes.{format_left}
use Rattle.sql_parse_changes.proofs.assignments.format_or_value.Goals as goal

pub returns-then-taken-ne1 : goal.returns-then-taken-ne1
returns-then-taken-ne1 c =
    let v = c.in_ok-value.ensures in
    (v.0, rw (v.1, format_left c.args.rest c.in_ok-value.rest v.0 true (λ e. omega (arith, e))) refl, v.2)
