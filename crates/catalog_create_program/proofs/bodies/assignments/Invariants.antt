use Rattle.std.proofs.Common.{◌≡◌, ◌≤◌, min, drop}
use Rattle.sql_tree.specs.StatementView.{view_assignments}
use Rattle.catalog_create_program.specs.BodyRanks.{assignments_rank}
use Rattle.catalog_create_program.specs.Kinds.{kind_of}
use Rattle.catalog_create_program.specs.Scopes.{names_of}
use Rattle.catalog_create_program.proofs.bodies.assignments.Given as goal

abbrev pub invariant-loop-assignment : goal.invariant-loop-assignment
invariant-loop-assignment l =
    (l.rank ≤ 3)
    × (min l.rank (assignments_rank (kind_of l.kind) (names_of l.names) (view_assignments (drop l.assignment-index l.assignment-items))) ≡ assignments_rank (kind_of l.kind) (names_of l.names) (view_assignments l.list))
