use Rattle.std.proofs.Common.{◌≡◌, drop}
use Rattle.log_model.specs.Items.{columns_in}
use Rattle.row_events.proofs.tables.columns_of.Given as goal

abbrev pub invariant-loop-def : goal.invariant-loop-def
invariant-loop-def l = columns_in (drop l.def-index l.defs) l.name ≡ columns_in l.defs l.name
