use Rattle.std.proofs.Common.{◌≡◌, ◌<◌, ◌^◌, max, drop}
use Rattle.auto_inc.specs.Counting.{greatest_held}
use Rattle.store_load.proofs.counters.greatest_held.Given as goal

abbrev pub invariant-loop-row : goal.invariant-loop-row
invariant-loop-row l = record {
  value : max l.greatest (greatest_held l.column (drop l.row-index l.rows)) ≡ greatest_held l.column l.rows;
  fits : l.greatest < 2 ^ 63;
}
