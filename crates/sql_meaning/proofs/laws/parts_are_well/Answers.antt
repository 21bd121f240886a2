use Rattle.sql_meaning.proofs.Within.{steps_well, dos_well}
use Rattle.sql_meaning.proofs.laws.parts_are_well.Goals as goal

pub returns-clause-steps : goal.returns-clause-steps
returns-clause-steps c = steps_well

pub returns-clause-dos : goal.returns-clause-dos
returns-clause-dos c = dos_well
