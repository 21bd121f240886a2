use Rattle.std.proofs.Common.{map, drop}
use Rattle.log_entry_laws.specs.log_model.Items.{AreTypes, kind_of}
use Rattle.binlog_items.proofs.carrying.are_types.Given as goal

abbrev pub invariant-loop-column : goal.invariant-loop-column
invariant-loop-column l = AreTypes (map kind_of (drop l.column-index l.columns)) → AreTypes (map kind_of l.columns)
