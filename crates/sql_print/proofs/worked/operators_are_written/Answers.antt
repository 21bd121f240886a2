use Rattle.std.proofs.Common.{refl}
use Rattle.std.specs.Fmt.{digits}
use Rattle.sql_print.proofs.worked.operators_are_written.Goals as goal

pub returns-clause-infix : goal.returns-clause-infix
unfolding digits
returns-clause-infix c = refl

pub returns-clause-prefix : goal.returns-clause-prefix
unfolding digits
returns-clause-prefix c = refl

pub returns-clause-nested : goal.returns-clause-nested
unfolding digits
returns-clause-nested c = refl

pub returns-clause-within : goal.returns-clause-within
unfolding digits
returns-clause-within c = refl
