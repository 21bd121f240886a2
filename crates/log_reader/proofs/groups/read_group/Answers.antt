use Rattle.std.proofs.Common.{ap, arith, length}
use Rattle.log_reader.proofs.Inputs.{took_nothing, took_takes, takes_more, on_err}
use Rattle.log_reader.proofs.Looking.{looked_more}
use Rattle.log_reader.proofs.groups.read_group.Goals as goal

pub loop-whole-init : goal.loop-whole-init
loop-whole-init g c =
    let none = ap length c.requires.empty in
    record {
      took = rw c.requires.empty (took_nothing _);
      looked = c.new-progress.ensures.looked _ _;
      few = omega (arith, none);
      later = omega arith;
      fresh = λ old. old;
      room = c.requires.room;
    }

pub returns-in_err-whole-clause-takes : goal.returns-in_err-whole-clause-takes
returns-in_err-whole-clause-takes g c = on_err _ (takes_more _ _ _ (took_takes _ _ _ c.loop-whole.invariant.took) c.fill.ensures.takes)

pub look_at-requires-clause-looked : goal.look_at-requires-clause-looked
look_at-requires-clause-looked g c = rw c.as_slice.ensures (looked_more _ _ _ _ c.in_ok-whole.ensures.grows c.loop-whole.invariant.looked)
