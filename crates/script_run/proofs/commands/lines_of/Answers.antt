use Rattle.std.proofs.Common.{refl}
use Rattle.script_run.specs.Asking.{asked_seen}
use Rattle.script_run.proofs.Running.{before_by, left_if, lined_if}
use Rattle.script_run.proofs.commands.lines_of.Goals as goal

pub returns-clause-lined : goal.returns-clause-lined
returns-clause-lined g c names start b together =
    lined_if c.carry_out.result names b c.args.number (asked_seen c.args.asked.now) _ _ start c.args.report.now _ c.carry_out.new.report c.mark-report.result c.carry_out.new.self refl
    (c.carry_out.ensures.carried names start b (before_by names _ start c.args.nodes.now c.args.number b c.args.report.now _ c.mark-report.result refl together (c.mark-report.ensures.numbers names start b together)
    c.mark-report.ensures.calls c.mark-report.ensures.rep_calls))

pub returns-clause-left : goal.returns-clause-left
returns-clause-left g c names start b together =
    left_if c.carry_out.result names b c.args.number (asked_seen c.args.asked.now) _ _ start c.args.report.now _ c.carry_out.new.report c.mark-report.result refl
    (c.carry_out.ensures.left names start b (before_by names _ start c.args.nodes.now c.args.number b c.args.report.now _ c.mark-report.result refl together (c.mark-report.ensures.numbers names start b together)
    c.mark-report.ensures.calls c.mark-report.ensures.rep_calls))
