use Rattle.std.proofs.Common.{◌≡◌, ◌+◌, ◌*◌, take}
use Rattle.tree_copies.proofs.statements.+copies.Given as goal

-- Each measure is ten times the depth of what is copied, and a number that falls where a function
-- hands on what it was given.

abbrev pub decreases-copy_boxed : goal.decreases-copy_boxed
decreases-copy_boxed l = 10 * goal.size-copy_boxed l + 5

abbrev pub decreases-copy_routine : goal.decreases-copy_routine
decreases-copy_routine l = 10 * goal.size-copy_routine l + 4

abbrev pub decreases-copy_trigger : goal.decreases-copy_trigger
decreases-copy_trigger l = 10 * goal.size-copy_trigger l + 4

abbrev pub decreases-copy_branches : goal.decreases-copy_branches
decreases-copy_branches l = 10 * goal.size-copy_branches l + 4

abbrev pub decreases-copy_otherwise : goal.decreases-copy_otherwise
decreases-copy_otherwise l = 10 * goal.size-copy_otherwise l + 4

abbrev pub decreases-copy_steps : goal.decreases-copy_steps
decreases-copy_steps l = 10 * goal.size-copy_steps l + 3

abbrev pub decreases-copy_stmt : goal.decreases-copy_stmt
decreases-copy_stmt l = 10 * goal.size-copy_stmt l

abbrev pub invariant-copy_steps-loop-step : goal.invariant-copy_steps-loop-step
invariant-copy_steps-loop-step l = l.copy ≡ take l.step-index l.step-items

abbrev pub invariant-copy_branches-loop-branch : goal.invariant-copy_branches-loop-branch
invariant-copy_branches-loop-branch l = l.copy ≡ take l.branch-index l.branch-items
