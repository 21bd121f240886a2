use Rattle.std.proofs.Common.{rules, ◌∙◌, arith}
use Rattle.log_reader.proofs.Inputs.{grows_more, takes_more, takes_dropped}
use Rattle.log_reader.proofs.filling.fill.Goals as goal

pub returns-in_err-read_piece-clause-takes : goal.returns-in_err-read_piece-clause-takes
returns-in_err-read_piece-clause-takes g c =
    takes_more _ _ _ c.loop-bytes.invariant.takes (takes_dropped _ _ c.read_piece.ensures.taken.0 c.read_piece.ensures.taken.2)

pub loop-bytes-preserved : goal.loop-bytes-preserved
loop-bytes-preserved g c = record {
  grows = grows_more _ _ _ c.loop-bytes.invariant.grows c.in_ok-read_piece.ensures.grows;
  joined = c.in_ok-read_piece.ensures.joined ∙ c.loop-bytes.invariant.joined;
  takes = takes_more _ _ _ c.loop-bytes.invariant.takes (takes_dropped _ _ c.read_piece.ensures.taken.0 c.read_piece.ensures.taken.2);
  later = omega (arith, c.loop-bytes.invariant.later, c.read_piece.ensures.later);
  fresh = λ old. c.in_ok-read_piece.ensures.goes_on (omega (arith, c.if-branch-eq0.false)) (c.loop-bytes.invariant.fresh old);
  few = search rules;
  room = search rules;
}
