use Rattle.std.proofs.Common.{◌≡◌, ◌≤◌, min, drop}
use Rattle.sql_tree.specs.StatementView.{view_assignments}
use Rattle.catalog_objects.specs.catalog_rules.Ranks.{assignments_rank}
use Rattle.catalog_checks.specs.Asking.{asked_of}
use Rattle.catalog_checks.proofs.statements.assignments.Given as goal

abbrev pub invariant-loop-assignment : goal.invariant-loop-assignment
invariant-loop-assignment l = (l.rank ≤ 10) × (min l.rank (assignments_rank (asked_of l.checks) (view_assignments (drop l.assignment-index l.assignment-items))) ≡ assignments_rank (asked_of l.checks) (view_assignments l.list))
