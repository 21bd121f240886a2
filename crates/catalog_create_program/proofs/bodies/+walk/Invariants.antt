use Rattle.std.proofs.Common.{◌≡◌, ◌≤◌, ◌+◌, ◌*◌, min, drop}
use Rattle.sql_tree.specs.StatementView.{view_statements, view_branches}
use Rattle.catalog_create_program.specs.BodyRanks.{steps_rank, branches_rank}
use Rattle.catalog_create_program.specs.Kinds.{kind_of}
use Rattle.catalog_create_program.specs.Scopes.{names_of}
use Rattle.catalog_create_program.proofs.bodies.+walk.Given as goal

-- Each measure is ten times the depth of the statement's code, and a number that falls where a function hands on what it was
-- given.

abbrev pub decreases-branches : goal.decreases-branches
decreases-branches l = 10 * goal.size-branches l + 4

abbrev pub decreases-otherwise_rank : goal.decreases-otherwise_rank
decreases-otherwise_rank l = 10 * goal.size-otherwise_rank l + 4

abbrev pub decreases-steps : goal.decreases-steps
decreases-steps l = 10 * goal.size-steps l + 3

abbrev pub decreases-body : goal.decreases-body
decreases-body l = 10 * goal.size-body l

abbrev pub invariant-steps-loop-step : goal.invariant-steps-loop-step
invariant-steps-loop-step l =
    (l.rank ≤ 3)
    × (min l.rank (steps_rank (kind_of l.kind) (names_of l.names) (view_statements (drop l.step-index l.step-items))) ≡ steps_rank (kind_of l.kind) (names_of l.names) (view_statements l.list))

abbrev pub invariant-branches-loop-branch : goal.invariant-branches-loop-branch
invariant-branches-loop-branch l =
    (l.rank ≤ 3)
    × (min l.rank (branches_rank (kind_of l.kind) (names_of l.names) (view_branches (drop l.branch-index l.branch-items))) ≡ branches_rank (kind_of l.kind) (names_of l.names) (view_branches l.list))
