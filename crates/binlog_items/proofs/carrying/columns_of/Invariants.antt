use Rattle.std.proofs.Common.{◌≡◌, drop}
use Rattle.log_entry_laws.specs.log_model.Items.{columns_in}
use Rattle.binlog_items.proofs.carrying.columns_of.Given as goal

abbrev pub invariant-loop-definition : goal.invariant-loop-definition
invariant-loop-definition l = columns_in (drop l.definition-index l.defs) l.name ≡ columns_in l.defs l.name
