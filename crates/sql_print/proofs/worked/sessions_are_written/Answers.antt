use Rattle.std.proofs.Common.{refl}
use Rattle.std.specs.Fmt.{digits}
use Rattle.sql_print.proofs.worked.sessions_are_written.Goals as goal

pub returns-clause-sets : goal.returns-clause-sets
unfolding digits
returns-clause-sets c = refl

pub returns-clause-evaluates : goal.returns-clause-evaluates
unfolding digits
returns-clause-evaluates c = refl
