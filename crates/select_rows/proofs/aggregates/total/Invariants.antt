use Rattle.std.proofs.Common.{◌≡◌, ◌*◌, ◌^◌, drop, pos, neg_ℤ, ◌+ℤ◌, ◌≤ℤ◌}
use Rattle.value_rules.specs.Selecting.{total}
use Rattle.select_rows.proofs.aggregates.total.Given as goal

-- the sum so far and the rest make the whole, and each number has at most 63 bits
abbrev pub invariant-loop-value : goal.invariant-loop-value
invariant-loop-value l = record {
  sum : l.sum +ℤ total (drop l.value-index l.values) ≡ total l.values;
  low : neg_ℤ (pos (l.value-index * 2 ^ 63)) ≤ℤ l.sum;
  high : l.sum ≤ℤ pos (l.value-index * 2 ^ 63);
}
