use Rattle.std.proofs.Common.{sym, ◌∙◌}
use Rattle.sql_syntax.specs.Programs.{with_body}
use Rattle.sql_parse_bodies.proofs.ProgramNodes.{heads_last}
use Rattle.sql_parse_bodies.proofs.bodies.with_heads.Goals as goal

pub loop-head-preserved : goal.loop-head-preserved
loop-head-preserved c = λ s h.
    let k = c.loop-head.invariant s h in
    (with_body c.in-Some.head k.0, c.in_ok-body.ensures k.0 k.1, sym (heads_last c.pop.new.self c.in-Some.head k.0) ∙ (rw (← c.in-Some.ensures) k.2))
