use Rattle.std.proofs.Common.{false, refl}
use Rattle.sql_statements.proofs.Shown.{some_sets}
use Rattle.sql_statements.proofs.performing.manner.Goals as goal

pub returns-then-not-is_empty : goal.returns-then-not-is_empty
returns-then-not-is_empty c = some_sets c.args.ignore c.args.sets.now false c.if-not-is_empty.ensures refl
