use Rattle.std.proofs.Common.{◌≡◌, ◌++◌, reverse, length}
use Rattle.test_values.proofs.backwards.Given as goal

abbrev pub invariant-loop-value : goal.invariant-loop-value
invariant-loop-value l = l.turned ++ reverse l.row ≡ reverse l.fn.row

abbrev pub decreases-loop-value : goal.decreases-loop-value
decreases-loop-value l = length l.row
