use Rattle.std.proofs.Common.{◌≡◌, ◌≤◌, length}
use Rattle.run_streams.specs.Wrote.{Writing}
use Rattle.run_streams.proofs.streams.write_all.Given as goal

abbrev pub invariant-loop-rest : goal.invariant-loop-rest
invariant-loop-rest g l =
    Writing (g.K.Sink.written l.fn.out) (g.K.Sink.written l.out) l.bytes l.rest × (g.K.Sink.faults l.fn.out ≤ g.K.Sink.faults l.out)
    × (g.K.Sink.ended l.fn.out ≡ 0 → g.K.Sink.ended l.out ≡ 0)

abbrev pub decreases-loop-rest : goal.decreases-loop-rest
decreases-loop-rest g l = length l.rest
