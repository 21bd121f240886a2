use Rattle.std.proofs.Common.{ap, ◌∙◌}
use Rattle.proc_run.specs.catalog_objects.Keys.{objects_of}
use Rattle.proc_run.specs.proc_parts.Calls.{left_of}
use Rattle.session_statement.specs.Calls.{called}
use Rattle.session_call.proofs.Bringing.{call_so}
use Rattle.session_call.proofs.calling.call_steps.Goals as goal

pub returns-in-Ok : goal.returns-in-Ok
returns-in-Ok c =
    λ old at stood. call_so (called c.args.command.now) (objects_of c.in_ok-catalog.catalog) (left_of c.args.meter.now) c.args.name.now c.args.arguments.value _ c.call-answer.new.r (record { answer = c.in-Ok.answer; turns = c.call-answer.new.m.turns; uuids = c.call-answer.new.m.uuids })
    c.args.desk.now _ c.args.session.now _ c.args.arguments.warned c.give_back-warned.result c.with_warning.result c.in_ok-steps.ensures.command c.in_ok-steps.ensures.desk c.in_ok-steps.ensures.session c.in_ok-steps.ensures.warned (ap objects_of (c.in_ok-catalog.ensures ∙ c.catalog.ensures)) c.in-Ok.ensures.call c.give_back-warned.ensures.desk c.give_back-warned.ensures.session c.give_back-warned.ensures.warned c.with_warning.ensures old at stood
