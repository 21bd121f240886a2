use Rattle.std.proofs.Common.{◌≡◌, drop}
use Rattle.value_rules.specs.Selecting.{by_items}
use Rattle.select_rows.proofs.ordering.compare.Given as goal

-- the items so far are equal, so the rest decides
abbrev pub invariant-loop-i : goal.invariant-loop-i
invariant-loop-i l = by_items (drop l.i l.down) (drop l.i l.a) (drop l.i l.b) ≡ by_items l.down l.a l.b
