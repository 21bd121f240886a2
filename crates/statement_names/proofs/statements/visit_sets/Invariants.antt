use Rattle.std.proofs.Common.{◌≡◌, drop}
use Rattle.sql_tree.specs.StatementView.{view_sets}
use Rattle.statement_names.specs.Walking.{of_sets}
use Rattle.statement_names.proofs.statements.visit_sets.Given as goal

abbrev pub invariant-loop-set : goal.invariant-loop-set
invariant-loop-set g l = of_sets g.V.NameVisitor.visits (view_sets (drop l.set-index l.set-items)) l.visitor ≡ of_sets g.V.NameVisitor.visits (view_sets l.list) l.fn.visitor
