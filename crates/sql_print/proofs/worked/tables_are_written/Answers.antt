use Rattle.std.proofs.Common.{refl}
use Rattle.std.specs.Fmt.{digits}
use Rattle.sql_print.proofs.worked.tables_are_written.Goals as goal

pub returns-clause-shop : goal.returns-clause-shop
unfolding digits
returns-clause-shop c = refl

pub returns-clause-options : goal.returns-clause-options
unfolding digits
returns-clause-options c = refl
