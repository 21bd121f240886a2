use Rattle.std.proofs.Common.{drop}
use Rattle.row_laws.specs.Laws.{AreNamed}
use Rattle.binlog_items.proofs.carrying.are_named.Given as goal

abbrev pub invariant-loop-definition : goal.invariant-loop-definition
invariant-loop-definition l = AreNamed (drop l.definition-index l.defs) → AreNamed l.defs
