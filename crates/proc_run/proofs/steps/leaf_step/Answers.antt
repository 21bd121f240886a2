use Rattle.std.proofs.Common.{sym, ◌∙◌}
use Rattle.sql_tree.specs.StatementView.{view}
use Rattle.proc_parts.specs.Calls.{always, held_of}
use Rattle.proc_run.proofs.Performed.{step_none}
use Rattle.proc_run.proofs.steps.leaf_step.Goals as goal

pub returns-then-not-has_form-clause-gives : goal.returns-then-not-has_form-clause-gives
returns-then-not-has_form-clause-gives g c =
    step_none g.R.Ruled.rules g.R.Runner.faults c.args.world.now c.args.locals.now (always c.args.locals.now) (view c.args.s.now) (held_of c.args.held.now) c.args.r.now (sym c.has_form.ensures ∙ c.if-not-has_form.true)
