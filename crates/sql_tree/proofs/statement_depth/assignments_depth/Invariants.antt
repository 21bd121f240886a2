use Rattle.std.proofs.Common.{◌≡◌, ◌-◌, ◌^◌, ◌<◌, min, max, drop}
use Rattle.sql_tree.specs.Depth.{depth_of_assignments}
use Rattle.sql_tree.specs.StatementView.{view_assignments}
use Rattle.sql_tree.proofs.statement_depth.assignments_depth.Given as goal

abbrev pub invariant-loop-assignment : goal.invariant-loop-assignment
invariant-loop-assignment l =
    (l.most < 2 ^ 32) × (min (max l.most (depth_of_assignments (view_assignments (drop l.assignment-index l.assignment-items)))) (2 ^ 32 - 1) ≡ min (depth_of_assignments (view_assignments l.assignments)) (2 ^ 32 - 1))
