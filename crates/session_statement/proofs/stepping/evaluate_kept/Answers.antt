use Rattle.std.proofs.Common.{Ok, Err, refl}
use Rattle.proc_parts.specs.Calls.{left_of}
use Rattle.sql_tree.specs.StatementView.{view}
use Rattle.sql_tree.specs.View.{view_trees}
use Rattle.session_statement.specs.Ran.{fuel_at}
use Rattle.session_statement.proofs.Fitting.{said_at, not_said_at}
use Rattle.session_statement.proofs.stepping.evaluate_kept.Goals as goal

pub returns-in-Err-keep-clause-ends : goal.returns-in-Err-keep-clause-ends
returns-in-Err-keep-clause-ends c =
    said_at c.args.command.now.identity.now c.args.command.now.draw.now c.args.command.now.number (left_of c.args.meter.now) c.args.text.now (view_trees c.args.expressions.now) (view c.args.statement.now) c.args.locals.now c.in-Ok.evaluated.values
    (Err c.in-Err-keep.refusal) (fuel_at c.evaluate_unkept.new.meter) c.args.desk.now c.evaluate_unkept.new.desk c.keep.new.desk c.args.session.now c.evaluate_unkept.new.session c.keep.new.session c.in-Ok.evaluated.start.mark c.in-Ok.evaluated.start.before
    c.requires.is c.requires.none c.in-Ok.ensures.gives c.in-Ok.ensures.session c.in-Ok.ensures.mark c.in-Ok.ensures.before c.in-Ok.ensures.log c.in-Ok.ensures.committed c.in-Err-keep.ensures

pub returns-in-Ok-keep-clause-ends : goal.returns-in-Ok-keep-clause-ends
returns-in-Ok-keep-clause-ends c =
    said_at c.args.command.now.identity.now c.args.command.now.draw.now c.args.command.now.number (left_of c.args.meter.now) c.args.text.now (view_trees c.args.expressions.now) (view c.args.statement.now) c.args.locals.now c.in-Ok.evaluated.values
    (Ok c.in-Ok-keep.warned) (fuel_at c.evaluate_unkept.new.meter) c.args.desk.now c.evaluate_unkept.new.desk c.keep.new.desk c.args.session.now c.evaluate_unkept.new.session c.keep.new.session c.in-Ok.evaluated.start.mark c.in-Ok.evaluated.start.before
    c.requires.is c.requires.none c.in-Ok.ensures.gives c.in-Ok.ensures.session c.in-Ok.ensures.mark c.in-Ok.ensures.before c.in-Ok.ensures.log c.in-Ok.ensures.committed c.in-Ok-keep.ensures

pub returns-in-Err-clause-ends : goal.returns-in-Err-clause-ends
returns-in-Err-clause-ends c =
    not_said_at c.args.command.now.identity.now c.args.command.now.draw.now c.args.command.now.number (left_of c.args.meter.now) c.args.text.now (view_trees c.args.expressions.now) c.args.locals.now c.in-Err.refusal (fuel_at c.evaluate_unkept.new.meter)
    c.args.desk.now c.evaluate_unkept.new.desk c.args.session.now c.evaluate_unkept.new.session c.requires.none c.in-Err.ensures.gives c.in-Err.ensures.session c.in-Err.ensures.log
