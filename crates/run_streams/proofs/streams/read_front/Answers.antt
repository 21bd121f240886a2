use Rattle.std.proofs.Common.{arith}
use Rattle.run_streams.proofs.Reading.{taken_more, taken_all}
use Rattle.run_streams.proofs.streams.read_front.Goals as goal
use Rattle.run_streams.proofs.streams.read_front.Goals.{else-loop-script-test, then-loop-script-test+in_ok-read_piece+then-branch-eq0}

pub returns-in_err-read_piece-clause-limit : goal.returns-in_err-read_piece-clause-limit
returns-in_err-read_piece-clause-limit g c =
    taken_more c.loop-script.script _ _ _ c.read_piece.ensures.taken.0 c.loop-script.invariant.0 (omega (arith, c.read_piece.ensures.taken.1)) c.read_piece.ensures.taken.2

pub returns-clause-limit : goal.returns-clause-limit
returns-clause-limit g c =
    elim c.loop-script-test.branch [
      | else-loop-script-test w ↦ rw (w.input-is) (taken_all c.loop-script.script _ _ c.loop-script.invariant.0 c.loop-script.invariant.2)
      | then-loop-script-test+in_ok-read_piece+then-branch-eq0 w ↦
          rw (w.input-is) (taken_more c.loop-script.script _ _ _ w.read_piece.ensures.taken.0 c.loop-script.invariant.0 (omega (arith, w.read_piece.ensures.taken.1)) w.read_piece.ensures.taken.2)
    ]
