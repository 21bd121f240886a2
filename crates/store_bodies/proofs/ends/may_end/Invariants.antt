use Rattle.std.proofs.Common.{◌≡◌, length}
use Rattle.store_model.specs.Snapshots.{are_ends}
use Rattle.store_bodies.specs.Ends.{ends_at}
use Rattle.store_bodies.proofs.ends.may_end.Given as goal

abbrev pub invariant-loop-left : goal.invariant-loop-left
invariant-loop-left l = are_ends (ends_at l.left) ≡ are_ends (ends_at l.fn.ends)

abbrev pub decreases-loop-left : goal.decreases-loop-left
decreases-loop-left l = length l.left
