use Rattle.std.proofs.Common.{refl}
use Rattle.std.specs.Fmt.{digits}
use Rattle.sql_print.proofs.worked.selects_are_written.Goals as goal

pub returns-clause-items : goal.returns-clause-items
unfolding digits
returns-clause-items c = refl

pub returns-clause-totals : goal.returns-clause-totals
unfolding digits
returns-clause-totals c = refl

pub returns-clause-orders : goal.returns-clause-orders
unfolding digits
returns-clause-orders c = refl

pub returns-clause-limits : goal.returns-clause-limits
unfolding digits
returns-clause-limits c = refl
