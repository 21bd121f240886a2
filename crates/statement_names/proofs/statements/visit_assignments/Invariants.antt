use Rattle.std.proofs.Common.{◌≡◌, drop}
use Rattle.sql_tree.specs.StatementView.{view_assignments}
use Rattle.statement_names.specs.Walking.{of_assignments}
use Rattle.statement_names.proofs.statements.visit_assignments.Given as goal

abbrev pub invariant-loop-assignment : goal.invariant-loop-assignment
invariant-loop-assignment g l = of_assignments g.V.NameVisitor.visits (view_assignments (drop l.assignment-index l.assignment-items)) l.visitor ≡ of_assignments g.V.NameVisitor.visits (view_assignments l.list) l.fn.visitor
