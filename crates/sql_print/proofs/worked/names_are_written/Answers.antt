use Rattle.std.proofs.Common.{refl}
use Rattle.std.specs.Fmt.{digits}
use Rattle.sql_print.proofs.worked.names_are_written.Goals as goal

pub returns-clause-types : goal.returns-clause-types
unfolding digits
returns-clause-types c = refl
