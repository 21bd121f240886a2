use Rattle.sql_evaluation.proofs.Steps.{stage_on_twice}
use Rattle.sql_evaluation.proofs.choices.case_value.Goals as goal

pub returns-then-branch-clause-leads : goal.returns-then-branch-clause-leads
returns-then-branch-clause-leads g c = stage_on_twice _ _ _ _ c.loop-arm.invariant.leads c.holds.ensures.leads (c.requires.leads _ _ _ _ _ c.evaluate.ensures)
