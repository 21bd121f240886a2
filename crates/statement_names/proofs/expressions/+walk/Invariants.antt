use Rattle.std.proofs.Common.{◌≡◌, drop}
use Rattle.sql_tree.specs.View.{view_trees, view_arms, view_aggregates, view_orders}
use Rattle.statement_names.specs.Walking.{of_aggregates, of_arms, of_orders, of_trees}
use Rattle.statement_names.proofs.expressions.+walk.Given as goal

abbrev pub invariant-visit_exprs-loop-e : goal.invariant-visit_exprs-loop-e
invariant-visit_exprs-loop-e g l = of_trees g.V.NameVisitor.visits (view_trees (drop l.e-index l.e-items)) l.visitor ≡ of_trees g.V.NameVisitor.visits (view_trees l.list) l.fn.visitor

abbrev pub invariant-visit_arms-loop-arm : goal.invariant-visit_arms-loop-arm
invariant-visit_arms-loop-arm g l = of_arms g.V.NameVisitor.visits (view_arms (drop l.arm-index l.arm-items)) l.visitor ≡ of_arms g.V.NameVisitor.visits (view_arms l.list) l.fn.visitor

abbrev pub invariant-visit_aggregates-loop-aggregate : goal.invariant-visit_aggregates-loop-aggregate
invariant-visit_aggregates-loop-aggregate g l = of_aggregates g.V.NameVisitor.visits (view_aggregates (drop l.aggregate-index l.aggregate-items)) l.visitor ≡ of_aggregates g.V.NameVisitor.visits (view_aggregates l.list) l.fn.visitor

abbrev pub invariant-visit_order-loop-item : goal.invariant-visit_order-loop-item
invariant-visit_order-loop-item g l = of_orders g.V.NameVisitor.visits (view_orders (drop l.item-index l.item-items)) l.visitor ≡ of_orders g.V.NameVisitor.visits (view_orders l.list) l.fn.visitor
