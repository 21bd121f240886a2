use Rattle.sql_meaning.proofs.LedBodies.{statements_spend, bodies_spend, evaluations_spend}
use Rattle.sql_meaning.proofs.laws.turns_never_rise.Goals as goal

pub returns-clause-statements : goal.returns-clause-statements
returns-clause-statements c = statements_spend

pub returns-clause-bodies : goal.returns-clause-bodies
returns-clause-bodies c = bodies_spend

pub returns-clause-evaluations : goal.returns-clause-evaluations
returns-clause-evaluations c = evaluations_spend
