use Rattle.std.proofs.Common.{◌≡◌, drop}
use Rattle.sql_tree.specs.StatementView.{view_rows}
use Rattle.statement_names.specs.Walking.{of_rows}
use Rattle.statement_names.proofs.statements.visit_rows.Given as goal

abbrev pub invariant-loop-row : goal.invariant-loop-row
invariant-loop-row g l = of_rows g.V.NameVisitor.visits (view_rows (drop l.row-index l.row-items)) l.visitor ≡ of_rows g.V.NameVisitor.visits (view_rows l.rows) l.fn.visitor
