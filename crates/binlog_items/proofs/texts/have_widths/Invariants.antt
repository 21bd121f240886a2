use Rattle.std.proofs.Common.{drop}
use Rattle.binlog_items.specs.Logged.{AreValues}
use Rattle.binlog_items.proofs.texts.have_widths.Given as goal

-- with those that are left, all fit
abbrev pub invariant-loop-place : goal.invariant-loop-place
invariant-loop-place l = AreValues (drop l.place l.vars) → AreValues l.vars
