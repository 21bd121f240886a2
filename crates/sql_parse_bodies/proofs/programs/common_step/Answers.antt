use Rattle.sql_parse_bodies.proofs.programs.common_step.Goals as goal

pub returns : goal.returns
returns c =
    let s = c.in_ok-step.ensures in
    (s.0, s.1, rw c.in_ok-on_heap.ensures s.2)
