use Rattle.std.proofs.Common.{drop}
use Rattle.log_entry_laws.specs.log_model.Items.{CanCarryAll}
use Rattle.binlog_items.proofs.carrying.can_carry_all.Given as goal

-- those that are left are wanting
abbrev pub invariant-loop-change : goal.invariant-loop-change
invariant-loop-change l = CanCarryAll l.defs (drop l.change-index l.changes) → CanCarryAll l.defs l.changes
