use Rattle.sql_meaning.proofs.AgainBodies.{statements_keep, evaluations_keep}
use Rattle.sql_meaning.proofs.laws.more_fuel_does_the_same.Goals as goal

pub returns-clause-statements : goal.returns-clause-statements
returns-clause-statements c = statements_keep

pub returns-clause-evaluations : goal.returns-clause-evaluations
returns-clause-evaluations c = evaluations_keep
