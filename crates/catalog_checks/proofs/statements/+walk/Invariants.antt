use Rattle.std.proofs.Common.{◌≡◌, ◌≤◌, ◌+◌, ◌*◌, min, drop}
use Rattle.sql_tree.specs.StatementView.{view_statements, view_branches}
use Rattle.catalog_objects.specs.catalog_rules.Ranks.{steps_rank, branches_rank}
use Rattle.catalog_checks.specs.Asking.{asked_of}
use Rattle.catalog_checks.proofs.statements.+walk.Given as goal

-- Each measure is ten times the depth of the statement's code, and a number that falls where a function hands on what it was
-- given.

abbrev pub decreases-branches : goal.decreases-branches
decreases-branches l = 10 * goal.size-branches l + 4

abbrev pub decreases-otherwise_rank : goal.decreases-otherwise_rank
decreases-otherwise_rank l = 10 * goal.size-otherwise_rank l + 4

abbrev pub decreases-steps : goal.decreases-steps
decreases-steps l = 10 * goal.size-steps l + 3

abbrev pub decreases-statement : goal.decreases-statement
decreases-statement l = 10 * goal.size-statement l

abbrev pub invariant-steps-loop-step : goal.invariant-steps-loop-step
invariant-steps-loop-step l =
    (l.rank ≤ 10) × (min l.rank (steps_rank (asked_of l.checks) (view_statements (drop l.step-index l.step-items))) ≡ steps_rank (asked_of l.checks) (view_statements l.list))

abbrev pub invariant-branches-loop-branch : goal.invariant-branches-loop-branch
invariant-branches-loop-branch l =
    (l.rank ≤ 10) × (min l.rank (branches_rank (asked_of l.checks) (view_branches (drop l.branch-index l.branch-items))) ≡ branches_rank (asked_of l.checks) (view_branches l.list))
