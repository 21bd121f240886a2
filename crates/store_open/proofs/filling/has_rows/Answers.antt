use Rattle.std.proofs.Common.{sym}
use Rattle.store_open.proofs.Same.{none_same, rows_nowhere}
use Rattle.store_open.proofs.filling.has_rows.Goals as goal

pub returns-in-None : goal.returns-in-None
returns-in-None c = none_same c.is_empty.result _ c.args.rows.now (rows_nowhere c.args.name.now c.args.tables.now.tables (sym c.in-None.ensures)) c.is_empty.ensures
