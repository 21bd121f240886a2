use Rattle.std.proofs.Common.{arith}
use Rattle.port_traits.specs.declared.failed.Failed.{Failed}
use Rattle.run_streams.proofs.Writing.{writing_goes_on, goes_on}
use Rattle.run_streams.proofs.streams.write_all.Goals as goal

pub loop-rest-preserved : goal.loop-rest-preserved
loop-rest-preserved g c =
    rw c.split_at.ensures.back (
      writing_goes_on _ _ _ _ c.loop-rest.rest.now c.in_ok-count.count c.loop-rest.invariant.0 c.in_ok-count.ensures.puts.bytes,
      omega (arith, c.loop-rest.invariant.1, c.in_ok-count.ensures.cause.later),
      (λ fresh. goes_on Failed c.in_ok-count.count (g.K.Sink.ended c.loop-rest.out) (g.K.Sink.ended c.write.new.self) c.loop-rest.rest.now c.if-count-eq0.false c.in_ok-count.ensures.ended (c.loop-rest.invariant.2 fresh)),
    )
