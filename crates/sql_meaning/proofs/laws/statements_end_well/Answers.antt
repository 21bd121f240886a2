use Rattle.sql_meaning.proofs.LedBodies.{statements_end, evaluations_end}
use Rattle.sql_meaning.proofs.laws.statements_end_well.Goals as goal

pub returns-clause-statements : goal.returns-clause-statements
returns-clause-statements c = statements_end

pub returns-clause-evaluations : goal.returns-clause-evaluations
returns-clause-evaluations c = evaluations_end
