use Rattle.reach_laws.proofs.Readers.{readers_still, reading_still}
use Rattle.reach_laws.proofs.laws.readers_change_nothing.Goals as goal

pub returns-clause-statements : goal.returns-clause-statements
returns-clause-statements c = readers_still

pub returns-clause-evaluations : goal.returns-clause-evaluations
returns-clause-evaluations c = reading_still
