use Rattle.std.proofs.Common.{◌≡◌, ◌+◌, ◌-◌, ◌^◌, ◌≤◌, drop}
use Rattle.row_events.specs.Sizes.{bounded}
use Rattle.binlog_sizes.specs.Sizes.{row_size, values_size}
use Rattle.binlog_sizes.proofs.changes.row_size.Given as goal

abbrev pub invariant-loop-value : goal.invariant-loop-value
invariant-loop-value l = record {
  same : bounded (l.size + values_size (drop l.value-index l.row)) ≡ bounded (row_size l.row);
  fits : l.size ≤ 2 ^ 64 - 1;
}
