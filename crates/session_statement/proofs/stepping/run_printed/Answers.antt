use Rattle.std.proofs.Common.{Ok, Err, subst}
use Rattle.proc_parts.specs.log_entries.declared.entries.Item.{Item}
use Rattle.proc_parts.specs.prog_work.declared.meter.Outcome.{Outcome}
use Rattle.proc_parts.specs.Calls.{left_of}
use Rattle.sql_print.specs.StatementSpelling.{spelling}
use Rattle.sql_tree.specs.StatementView.{view}
use Rattle.session_shared.specs.session_model.Sessions.{Session}
use Rattle.session_shared.specs.session_model.Running.{statement_run}
use Rattle.session_statement.specs.Calls.{called}
use Rattle.session_shared.specs.Desk.{shared_of}
use Rattle.session_statement.specs.Ran.{fuel_at, told_given}
use Rattle.session_statement.specs.Turned.{EndsWith, giving}
use Rattle.session_statement.proofs.Keeps.{came_so}
use Rattle.session_statement.proofs.stepping.run_printed.Goals as goal

pub returns-in-Err-keep_printed-clause-ends : goal.returns-in-Err-keep_printed-clause-ends
returns-in-Err-keep_printed-clause-ends c =
    let session : Session Item = record { vars = c.session.inside.vars; format = c.session.inside.format; transaction = c.session.inside.transaction } in
    subst (λ (s : Session Item). EndsWith {A = Outcome} (Err c.in-Err-keep_printed.refusal) (fuel_at c.run.new.meter) c.args.desk.now c.keep_printed.new.desk c.keep_printed.new.session (giving told_given (statement_run (called c.args.command.now) (left_of c.args.meter.now) (spelling (view c.args.statement.now)) (view c.args.statement.now) (shared_of c.args.desk.now) s))) c.session.view_is
    (came_so c.args.command.now.identity.now c.args.command.now.draw.now c.args.command.now.number (left_of c.args.meter.now) (spelling (view c.args.statement.now)) (view c.args.statement.now) c.in-Ok.outcome (Err c.in-Err-keep_printed.refusal) (fuel_at c.run.new.meter) c.args.desk.now c.run.new.desk c.keep_printed.new.desk session c.keep_printed.new.session c.run.new.context
    c.start_of-start.result.mark c.start_of-start.result.before c.in-Ok.ensures.comes c.start_of-start.ensures.mark c.start_of-start.ensures.before c.in-Ok.ensures.log c.in-Ok.ensures.committed c.in-Err-keep_printed.ensures)

pub returns-in-Ok-keep_printed-clause-ends : goal.returns-in-Ok-keep_printed-clause-ends
returns-in-Ok-keep_printed-clause-ends c =
    let session : Session Item = record { vars = c.session.inside.vars; format = c.session.inside.format; transaction = c.session.inside.transaction } in
    subst (λ (s : Session Item). EndsWith (Ok (record { value = c.in-Ok.outcome; warned = c.in-Ok-keep_printed.warned })) (fuel_at c.run.new.meter) c.args.desk.now c.keep_printed.new.desk c.keep_printed.new.session (giving told_given (statement_run (called c.args.command.now) (left_of c.args.meter.now) (spelling (view c.args.statement.now)) (view c.args.statement.now) (shared_of c.args.desk.now) s))) c.session.view_is
    (came_so c.args.command.now.identity.now c.args.command.now.draw.now c.args.command.now.number (left_of c.args.meter.now) (spelling (view c.args.statement.now)) (view c.args.statement.now) c.in-Ok.outcome (Ok c.in-Ok-keep_printed.warned) (fuel_at c.run.new.meter) c.args.desk.now c.run.new.desk c.keep_printed.new.desk session c.keep_printed.new.session c.run.new.context
    c.start_of-start.result.mark c.start_of-start.result.before c.in-Ok.ensures.comes c.start_of-start.ensures.mark c.start_of-start.ensures.before c.in-Ok.ensures.log c.in-Ok.ensures.committed c.in-Ok-keep_printed.ensures)
