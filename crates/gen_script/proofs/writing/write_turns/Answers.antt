use Rattle.std.proofs.Common.{rules, ◌≡◌, ◌+◌, ◌++◌, arith}
use Rattle.load_script.specs.Script.{turn_lines, turns_text}
use Rattle.load_script.proofs.Turns.{turns_more}
use Rattle.gen_script.specs.Gathered.{Gathers}
use Rattle.gen_script.proofs.Gathering.{at_err, broken_front, front_of_script, gathers_more, gathers_on, written_front}
use Rattle.gen_script.proofs.writing.write_turns.Goals as goal

pub returns-in_err-with_status-2-clause-err : goal.returns-in_err-with_status-2-clause-err
returns-in_err-with_status-2-clause-err g c =
    at_err c.from_residual-in_err-with_status-2.result _ (front_of_script _ _ c.loop-i.i c.args.changes c.loop-i.invariant.1 (written_front _ _ _ _ c.loop-i.invariant.0))

pub loop-i-preserved : goal.loop-i-preserved
loop-i-preserved g c =
    let put : c.put_turn.new.text ≡ c.loop-i.text ++ turn_lines (c.loop-i.i + 1) = search rules in
    let more : Gathers (g.K.Sink.written c.args.out.now) (g.K.Sink.written c.loop-i.out) c.put_turn.new.text (turns_text (c.loop-i.i + 1)) = rw (put, turns_more c.loop-i.i) (gathers_more _ _ _ _ _ c.loop-i.invariant.0) in (
      gathers_on _ _ _ _ _ _ more c.in_ok-write_much.ensures.ok,
      omega (arith, c.loop-i-test.true),
      omega (arith, c.loop-i.invariant.2, c.write_much.ensures.later),
      (λ fresh. c.in_ok-write_much.ensures.ended (c.loop-i.invariant.3 fresh)),
    )

pub returns-in_err-write_much-clause-err : goal.returns-in_err-write_much-clause-err
returns-in_err-write_much-clause-err g c =
    let put : c.put_turn.new.text ≡ c.loop-i.text ++ turn_lines (c.loop-i.i + 1) = search rules in
    let more : Gathers (g.K.Sink.written c.args.out.now) (g.K.Sink.written c.loop-i.out) c.put_turn.new.text (turns_text (c.loop-i.i + 1)) = rw (put, turns_more c.loop-i.i) (gathers_more _ _ _ _ _ c.loop-i.invariant.0) in
    at_err c.from_residual-in_err-write_much.result _ (front_of_script _ _ (c.loop-i.i + 1) c.args.changes (omega (arith, c.loop-i-test.true)) (broken_front _ _ _ _ _ more c.in_err-write_much.ensures.err))
