use Rattle.std.proofs.Common.{◌≡◌, drop}
use Rattle.sql_tree.specs.StatementView.{view_declarations}
use Rattle.statement_names.specs.Walking.{of_declared}
use Rattle.statement_names.proofs.statements.visit_declared.Given as goal

abbrev pub invariant-loop-declaration : goal.invariant-loop-declaration
invariant-loop-declaration g l = of_declared g.V.NameVisitor.visits (view_declarations (drop l.declaration-index l.declaration-items)) l.visitor ≡ of_declared g.V.NameVisitor.visits (view_declarations l.list) l.fn.visitor
