use Rattle.std.proofs.Common.{◌≡◌, take}
use Rattle.tree_copies.proofs.statements.copy_assignments.Given as goal

abbrev pub invariant-loop-assignment : goal.invariant-loop-assignment
invariant-loop-assignment l = l.copy ≡ take l.assignment-index l.assignment-items
