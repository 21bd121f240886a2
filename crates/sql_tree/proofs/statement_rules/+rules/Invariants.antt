use Rattle.std.proofs.Common.{◌≡◌, ◌+◌, ◌*◌, drop}
use Rattle.sql_tree.specs.Well.{are_well_steps, are_well_branches}
use Rattle.sql_tree.specs.StatementView.{view_statements, view_branches}
use Rattle.sql_tree.proofs.statement_rules.+rules.Given as goal

-- Each measure is ten times the depth of the statement's code, and a number that falls where a
-- function hands on what it was given.

abbrev pub decreases-well_routine : goal.decreases-well_routine
decreases-well_routine l = 10 * goal.size-well_routine l + 4

abbrev pub decreases-well_trigger : goal.decreases-well_trigger
decreases-well_trigger l = 10 * goal.size-well_trigger l + 4

abbrev pub decreases-well_branches : goal.decreases-well_branches
decreases-well_branches l = 10 * goal.size-well_branches l + 4

abbrev pub decreases-well_otherwise : goal.decreases-well_otherwise
decreases-well_otherwise l = 10 * goal.size-well_otherwise l + 4

abbrev pub decreases-well_steps : goal.decreases-well_steps
decreases-well_steps l = 10 * goal.size-well_steps l + 3

abbrev pub decreases-well_step : goal.decreases-well_step
decreases-well_step l = 10 * goal.size-well_step l

abbrev pub invariant-well_steps-loop-step : goal.invariant-well_steps-loop-step
invariant-well_steps-loop-step l = are_well_steps (view_statements (drop l.step-index l.step-items)) ≡ are_well_steps (view_statements l.steps)

abbrev pub invariant-well_branches-loop-branch : goal.invariant-well_branches-loop-branch
invariant-well_branches-loop-branch l = are_well_branches (view_branches (drop l.branch-index l.branch-items)) ≡ are_well_branches (view_branches l.branches)
