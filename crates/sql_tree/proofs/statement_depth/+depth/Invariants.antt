use Rattle.std.proofs.Common.{◌≡◌, ◌+◌, ◌-◌, ◌*◌, ◌^◌, ◌<◌, min, max, drop}
use Rattle.sql_tree.specs.Depth.{depth_of_statements, depth_of_branches}
use Rattle.sql_tree.specs.StatementView.{view_statements, view_branches}
use Rattle.sql_tree.proofs.statement_depth.+depth.Given as goal

-- Each measure is ten times the depth of the statement's code, and a number that falls where a
-- function hands on what it was given.

abbrev pub decreases-branches_depth : goal.decreases-branches_depth
decreases-branches_depth l = 10 * goal.size-branches_depth l + 4

abbrev pub decreases-otherwise_depth : goal.decreases-otherwise_depth
decreases-otherwise_depth l = 10 * goal.size-otherwise_depth l + 4

abbrev pub decreases-steps_depth : goal.decreases-steps_depth
decreases-steps_depth l = 10 * goal.size-steps_depth l + 3

abbrev pub decreases-depth : goal.decreases-depth
decreases-depth l = 10 * goal.size-depth l

abbrev pub invariant-steps_depth-loop-step : goal.invariant-steps_depth-loop-step
invariant-steps_depth-loop-step l =
    (l.most < 2 ^ 32) × (min (max l.most (depth_of_statements (view_statements (drop l.step-index l.step-items)))) (2 ^ 32 - 1) ≡ min (depth_of_statements (view_statements l.steps)) (2 ^ 32 - 1))

abbrev pub invariant-branches_depth-loop-branch : goal.invariant-branches_depth-loop-branch
invariant-branches_depth-loop-branch l =
    (l.most < 2 ^ 32) × (min (max l.most (depth_of_branches (view_branches (drop l.branch-index l.branch-items)))) (2 ^ 32 - 1) ≡ min (depth_of_branches (view_branches l.branches)) (2 ^ 32 - 1))
