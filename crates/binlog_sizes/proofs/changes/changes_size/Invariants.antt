use Rattle.std.proofs.Common.{◌≡◌, ◌+◌, ◌-◌, ◌^◌, ◌≤◌, drop}
use Rattle.row_events.specs.Sizes.{bounded}
use Rattle.binlog_sizes.specs.Sizes.{changes_size}
use Rattle.binlog_sizes.proofs.changes.changes_size.Given as goal

abbrev pub invariant-loop-change : goal.invariant-loop-change
invariant-loop-change l = record {
  same : bounded (l.size + changes_size (drop l.change-index l.changes)) ≡ bounded (changes_size l.changes);
  fits : l.size ≤ 2 ^ 64 - 1;
}
