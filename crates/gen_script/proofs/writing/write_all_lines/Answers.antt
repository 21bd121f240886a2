use Rattle.std.proofs.Common.{rules, ◌≡◌, ◌++◌, arith}
use Rattle.load_script.specs.Script.{last_lines, load_text}
use Rattle.gen_script.specs.Gathered.{Gathers}
use Rattle.gen_script.proofs.Gathering.{at_err, broken_front, front_of_script, gathers_more, on_err, on_ok, written_front, written_whole}
use Rattle.gen_script.proofs.writing.write_all_lines.Goals as goal

pub returns-in_err-with_status-clause-err : goal.returns-in_err-with_status-clause-err
returns-in_err-with_status-clause-err g c =
    at_err c.from_residual-in_err-with_status.result _ (front_of_script _ _ c.args.changes c.args.changes (omega arith) (written_front _ _ _ _ c.in_ok-text.ensures.ok))

pub returns-clause-ok : goal.returns-clause-ok
returns-clause-ok g c =
    let put : c.as_slice.result.now ≡ c.in_ok-text.text ++ last_lines = search rules in
    let whole : Gathers (g.K.Sink.written c.args.out.now) (g.K.Sink.written c.write_turns.new.out) c.as_slice.result.now (load_text c.args.changes) = rw put (gathers_more _ _ _ _ _ c.in_ok-text.ensures.ok) in
    on_ok c.write_line.result _ _ (written_whole _ _ _ _ _ whole) c.write_line.ensures.ok

pub returns-clause-err : goal.returns-clause-err
returns-clause-err g c =
    let put : c.as_slice.result.now ≡ c.in_ok-text.text ++ last_lines = search rules in
    let whole : Gathers (g.K.Sink.written c.args.out.now) (g.K.Sink.written c.write_turns.new.out) c.as_slice.result.now (load_text c.args.changes) = rw put (gathers_more _ _ _ _ _ c.in_ok-text.ensures.ok) in
    on_err c.write_line.result _ _ (broken_front _ _ _ _ _ whole) c.write_line.ensures.err
