use Rattle.std.proofs.Common.{Ok, Err, ap, ◌∙◌}
use Rattle.answer_making.specs.log_entries.declared.entries.Item.{Item}
use Rattle.session_statement.specs.proc_parts.Calls.{left_of}
use Rattle.sql_tree.specs.StatementView.{view}
use Rattle.sql_tree.specs.View.{view_trees}
use Rattle.answer_making.specs.session_model.Commands.{is_open}
use Rattle.answer_making.specs.session_model.Sessions.{Session}
use Rattle.session_set.specs.Assigning.{misfit_of}
use Rattle.session_statement.specs.Ran.{fuel_at}
use Rattle.session_statement.proofs.Fitting.{failed_so, settled_so}
use Rattle.session_set.proofs.evaluating.fitting_values.Goals as goal

pub returns-in-Err-settle : goal.returns-in-Err-settle
returns-in-Err-settle c =
    settled_so c.args.command.now.identity.now c.args.command.now.draw.now c.args.command.now.number (left_of c.args.meter.now) c.args.text.now (view_trees c.args.expressions.now) (misfit_of (is_open c.args.session.now) c.args.targets.now)
    (view c.args.statement.now) c.args.locals.now c.in-Ok.evaluated.values c.misfit_of-misfit.result (Err c.in-Err-settle.refusal) (fuel_at c.evaluate_unkept.new.meter) c.args.desk.now c.evaluate_unkept.new.desk c.settle.new.desk
    c.args.session.now c.evaluate_unkept.new.session c.settle.new.session c.in-Ok.evaluated.start.mark c.in-Ok.evaluated.start.before c.requires.is c.requires.none
    (c.misfit_of-misfit.ensures ∙ ap (λ (s : Session Item). misfit_of (is_open s) c.args.targets.now c.in-Ok.evaluated.values) c.in-Ok.ensures.session)
    c.in-Ok.ensures.gives c.in-Ok.ensures.session c.in-Ok.ensures.mark c.in-Ok.ensures.before c.in-Ok.ensures.log c.in-Ok.ensures.committed c.in-Err-settle.ensures

pub returns-in-Ok-settle : goal.returns-in-Ok-settle
returns-in-Ok-settle c =
    settled_so c.args.command.now.identity.now c.args.command.now.draw.now c.args.command.now.number (left_of c.args.meter.now) c.args.text.now (view_trees c.args.expressions.now) (misfit_of (is_open c.args.session.now) c.args.targets.now)
    (view c.args.statement.now) c.args.locals.now c.in-Ok.evaluated.values c.misfit_of-misfit.result (Ok c.in-Ok-settle.warned) (fuel_at c.evaluate_unkept.new.meter) c.args.desk.now c.evaluate_unkept.new.desk c.settle.new.desk
    c.args.session.now c.evaluate_unkept.new.session c.settle.new.session c.in-Ok.evaluated.start.mark c.in-Ok.evaluated.start.before c.requires.is c.requires.none
    (c.misfit_of-misfit.ensures ∙ ap (λ (s : Session Item). misfit_of (is_open s) c.args.targets.now c.in-Ok.evaluated.values) c.in-Ok.ensures.session)
    c.in-Ok.ensures.gives c.in-Ok.ensures.session c.in-Ok.ensures.mark c.in-Ok.ensures.before c.in-Ok.ensures.log c.in-Ok.ensures.committed c.in-Ok-settle.ensures

pub returns-in-Err : goal.returns-in-Err
returns-in-Err c =
    failed_so c.args.command.now.identity.now c.args.command.now.draw.now c.args.command.now.number (left_of c.args.meter.now) c.args.text.now (view_trees c.args.expressions.now) (misfit_of (is_open c.args.session.now) c.args.targets.now)
    c.args.locals.now c.in-Err.refusal (fuel_at c.evaluate_unkept.new.meter) c.args.desk.now c.evaluate_unkept.new.desk c.args.session.now c.evaluate_unkept.new.session c.requires.none c.in-Err.ensures.gives c.in-Err.ensures.session c.in-Err.ensures.log
