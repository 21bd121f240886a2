use Rattle.std.proofs.Common.{Ok, Err}
use Rattle.proc_parts.specs.Calls.{left_of}
use Rattle.sql_print.specs.StatementSpelling.{spelling}
use Rattle.proc_parts.specs.sql_reach.Closing.{closed}
use Rattle.sql_tree.specs.StatementView.{view}
use Rattle.sql_tree.specs.View.{view_trees}
use Rattle.session_statement.specs.Ran.{fuel_at}
use Rattle.session_statement.proofs.Keeps.{closed_leaves}
use Rattle.session_statement.proofs.Fitting.{gave_at, not_given_at}
use Rattle.session_statement.proofs.stepping.evaluate_closed.Goals as goal

pub returns-in-Err-keep_closed-clause-ends : goal.returns-in-Err-keep_closed-clause-ends
returns-in-Err-keep_closed-clause-ends c =
    gave_at c.args.command.now.identity.now c.args.command.now.draw.now c.args.command.now.number (left_of c.args.meter.now) (spelling (closed (view c.args.statement.now) c.args.locals.now)) (view_trees c.args.expressions.now) (closed (view c.args.statement.now) c.args.locals.now) c.args.locals.now c.in-Ok.evaluated.values
    (Err c.in-Err-keep_closed.refusal) (fuel_at c.evaluate_unkept.new.meter) c.args.desk.now c.evaluate_unkept.new.desk c.keep_closed.new.desk c.args.session.now c.evaluate_unkept.new.session c.keep_closed.new.session c.in-Ok.evaluated.start.mark c.in-Ok.evaluated.start.before
    (closed_leaves (view c.args.statement.now) c.args.locals.now (view_trees c.args.expressions.now) c.requires) c.in-Ok.ensures.gives c.in-Ok.ensures.session c.in-Ok.ensures.mark c.in-Ok.ensures.before c.in-Ok.ensures.log c.in-Ok.ensures.committed c.in-Err-keep_closed.ensures

pub returns-in-Ok-keep_closed-clause-ends : goal.returns-in-Ok-keep_closed-clause-ends
returns-in-Ok-keep_closed-clause-ends c =
    gave_at c.args.command.now.identity.now c.args.command.now.draw.now c.args.command.now.number (left_of c.args.meter.now) (spelling (closed (view c.args.statement.now) c.args.locals.now)) (view_trees c.args.expressions.now) (closed (view c.args.statement.now) c.args.locals.now) c.args.locals.now c.in-Ok.evaluated.values
    (Ok c.in-Ok-keep_closed.warned) (fuel_at c.evaluate_unkept.new.meter) c.args.desk.now c.evaluate_unkept.new.desk c.keep_closed.new.desk c.args.session.now c.evaluate_unkept.new.session c.keep_closed.new.session c.in-Ok.evaluated.start.mark c.in-Ok.evaluated.start.before
    (closed_leaves (view c.args.statement.now) c.args.locals.now (view_trees c.args.expressions.now) c.requires) c.in-Ok.ensures.gives c.in-Ok.ensures.session c.in-Ok.ensures.mark c.in-Ok.ensures.before c.in-Ok.ensures.log c.in-Ok.ensures.committed c.in-Ok-keep_closed.ensures

pub returns-in-Err-clause-ends : goal.returns-in-Err-clause-ends
returns-in-Err-clause-ends c =
    not_given_at c.args.command.now.identity.now c.args.command.now.draw.now c.args.command.now.number (left_of c.args.meter.now) (spelling (closed (view c.args.statement.now) c.args.locals.now)) (view_trees c.args.expressions.now) (closed (view c.args.statement.now) c.args.locals.now) c.args.locals.now
    c.in-Err.refusal (fuel_at c.evaluate_unkept.new.meter) c.args.desk.now c.evaluate_unkept.new.desk c.args.session.now c.evaluate_unkept.new.session
    (closed_leaves (view c.args.statement.now) c.args.locals.now (view_trees c.args.expressions.now) c.requires) c.in-Err.ensures.gives c.in-Err.ensures.session c.in-Err.ensures.log
