use Rattle.std.proofs.Common.{◌≡◌, ◌+◌, ◌*◌, drop}
use Rattle.sql_tree.specs.StatementView.{view_statements, view_branches}
use Rattle.statement_names.specs.Walking.{of_branches, of_steps}
use Rattle.statement_names.proofs.statements.+walk.Given as goal

abbrev pub invariant-visit_steps-loop-step : goal.invariant-visit_steps-loop-step
invariant-visit_steps-loop-step g l = of_steps g.V.NameVisitor.visits (view_statements (drop l.step-index l.step-items)) l.visitor ≡ of_steps g.V.NameVisitor.visits (view_statements l.list) l.fn.visitor

abbrev pub invariant-visit_branches-loop-branch : goal.invariant-visit_branches-loop-branch
invariant-visit_branches-loop-branch g l = of_branches g.V.NameVisitor.visits (view_branches (drop l.branch-index l.branch-items)) l.visitor ≡ of_branches g.V.NameVisitor.visits (view_branches l.list) l.fn.visitor

abbrev pub decreases-visit_branches : goal.decreases-visit_branches
decreases-visit_branches g l = 10 * goal.size-visit_branches g l + 4

abbrev pub decreases-visit_otherwise : goal.decreases-visit_otherwise
decreases-visit_otherwise g l = 10 * goal.size-visit_otherwise g l + 4

abbrev pub decreases-visit_steps : goal.decreases-visit_steps
decreases-visit_steps g l = 10 * goal.size-visit_steps g l + 3

abbrev pub decreases-visit_statement : goal.decreases-visit_statement
decreases-visit_statement g l = 10 * goal.size-visit_statement g l
