use Rattle.std.proofs.Common.{◌+◌, ℕ, ap, refl, arith}
use Rattle.log_reader.proofs.Looking.{call_reads, stays_low}
use Rattle.log_reader.proofs.reader.LogReader.next.Goals as goal

pub invariant_of-self-in-Ok : goal.invariant_of-self-in-Ok
invariant_of-self-in-Ok g c =
    stays_low _ c.read_next.new.bytes (c.self.inside.begin + c.len.result) _ _ c.in-Ok.taken.found _ _ c.in-Ok.ensures.finds c.keep.ensures
    (omega (arith, c.self.invariant.0, c.len.ensures)) (λ unclosed. let low = c.self.invariant.1 unclosed in omega (arith, low, c.len.ensures))

pub returns-in-Ok-clause-reads : goal.returns-in-Ok-clause-reads
returns-in-Ok-clause-reads g c =
    rw (← c.self.view_is)
    (call_reads _ _ _ _ c.read_next.new.bytes (c.self.inside.begin + c.len.result) _ c.in-Ok.taken.found c.in-Ok.ensures.took c.in-Ok.ensures.finds
    (ap (λ (n : ℕ). c.self.inside.begin + n) c.len.ensures) refl c.keep.ensures)
