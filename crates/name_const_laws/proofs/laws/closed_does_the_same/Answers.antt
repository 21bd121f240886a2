use Rattle.name_const_laws.proofs.Whole.{does_the_same, gives_the_same}
use Rattle.name_const_laws.proofs.laws.closed_does_the_same.Goals as goal

pub returns-clause-statements : goal.returns-clause-statements
returns-clause-statements c = does_the_same

pub returns-clause-expressions : goal.returns-clause-expressions
returns-clause-expressions c = gives_the_same
