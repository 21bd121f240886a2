use Rattle.std.proofs.Common.{◌≡◌, drop}
use Rattle.value_rules.specs.Selecting.{comes_first, extreme}
use Rattle.select_rows.proofs.aggregates.extreme.Given as goal

-- the best so far and the rest make the whole
abbrev pub invariant-loop-value : goal.invariant-loop-value
invariant-loop-value l =
    extreme (comes_first l.highest) l.best (drop l.value-index l.values) ≡ extreme (comes_first l.highest) l.none l.values
