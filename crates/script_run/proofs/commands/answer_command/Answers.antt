use Rattle.std.proofs.Common.{refl}
use Rattle.script_run.specs.Asking.{asked_seen}
use Rattle.script_run.proofs.Running.{refused_by, refused_stops, stopped_by, told_by, write_stops}
use Rattle.script_run.proofs.commands.answer_command.Goals as goal

pub returns-in-Ok-clause-told : goal.returns-in-Ok-clause-told
returns-in-Ok-clause-told g c names start m together =
    told_by c.write_line.result names m c.args.number (asked_seen c.args.asked.now) _ _ start c.args.report.now c.lines_of.new.report c.lines_of.new.nodes _ _ c.in-Ok.lines
    (c.in-Ok.ensures.lined names start m together) (rw c.as_slice.ensures at c.write_line.ensures.ok)

pub returns-in-Ok-clause-stopped : goal.returns-in-Ok-clause-stopped
returns-in-Ok-clause-stopped g c names start m together =
    stopped_by c.write_line.result names m c.args.number (asked_seen c.args.asked.now) _ _ start c.args.report.now c.lines_of.new.report c.lines_of.new.nodes _ _ c.in-Ok.lines
    (c.in-Ok.ensures.lined names start m together) c.write_line.ensures.fault (rw c.as_slice.ensures at c.write_line.ensures.err)

pub returns-in-Ok-clause-stop : goal.returns-in-Ok-clause-stop
returns-in-Ok-clause-stop g c = write_stops c.write_line.result _ _ _ _ _ c.write_line.ensures.fault c.write_line.ensures.stop

pub returns-in-Err-clause-stopped : goal.returns-in-Err-clause-stopped
returns-in-Err-clause-stopped g c names start m together =
    rw c.status_by.ensures
    (refused_by c.in-Err.refusal names m c.args.number (asked_seen c.args.asked.now) _ _ start c.args.nodes.now c.args.report.now c.lines_of.new.report _ _ _ _ together c.in-Err.ensures.refuses (c.in-Err.ensures.left names start m together) refl)

pub returns-in-Err-clause-stop : goal.returns-in-Err-clause-stop
returns-in-Err-clause-stop g c = rw c.status_by.ensures (refused_stops c.in-Err.refusal _ _ _ _ _ c.in-Err.ensures.refuses)
