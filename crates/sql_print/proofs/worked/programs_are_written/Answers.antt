use Rattle.std.proofs.Common.{refl}
use Rattle.std.specs.Fmt.{digits}
use Rattle.sql_print.proofs.worked.programs_are_written.Goals as goal

pub returns-clause-functions : goal.returns-clause-functions
unfolding digits
returns-clause-functions c = refl

pub returns-clause-blocks : goal.returns-clause-blocks
unfolding digits
returns-clause-blocks c = refl

pub returns-clause-branches : goal.returns-clause-branches
unfolding digits
returns-clause-branches c = refl

pub returns-clause-loops : goal.returns-clause-loops
unfolding digits
returns-clause-loops c = refl
