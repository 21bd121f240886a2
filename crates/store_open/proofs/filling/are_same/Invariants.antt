use Rattle.std.proofs.Common.{◌≡◌, length}
use Rattle.store_open.proofs.filling.are_same.Given as goal

abbrev pub invariant-loop-left : goal.invariant-loop-left
invariant-loop-left l = record {
  to : l.rows ≡ l.others → l.left ≡ l.right;
  back : l.left ≡ l.right → l.rows ≡ l.others;
}

abbrev pub decreases-loop-left : goal.decreases-loop-left
decreases-loop-left l = length l.left
