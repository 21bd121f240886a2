use Rattle.std.proofs.Common.{◌≡◌, drop}
use Rattle.std.specs.List.{list_all}
use Rattle.sql_tree.specs.Well.{is_well_assignment}
use Rattle.sql_tree.specs.StatementView.{view_assignments}
use Rattle.sql_tree.proofs.statement_rules.well_assignments.Given as goal

abbrev pub invariant-loop-assignment : goal.invariant-loop-assignment
invariant-loop-assignment l = list_all is_well_assignment (view_assignments (drop l.assignment-index l.assignment-items)) ≡ list_all is_well_assignment (view_assignments l.assignments)
