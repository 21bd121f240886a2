use Rattle.std.proofs.Common.{◌≡◌, drop}
use Rattle.sql_tree.specs.Well.{are_well_trees, are_well_arms, are_well_aggregates, are_well_orders}
use Rattle.sql_tree.specs.View.{view_trees, view_arms, view_aggregates, view_orders}
use Rattle.sql_tree.proofs.expression_rules.+rules.Given as goal

abbrev pub invariant-well_exprs-loop-expr : goal.invariant-well_exprs-loop-expr
invariant-well_exprs-loop-expr l = are_well_trees (view_trees (drop l.expr-index l.expr-items)) ≡ are_well_trees (view_trees l.exprs)

abbrev pub invariant-well_arms-loop-arm : goal.invariant-well_arms-loop-arm
invariant-well_arms-loop-arm l = are_well_arms (view_arms (drop l.arm-index l.arm-items)) ≡ are_well_arms (view_arms l.arms)

abbrev pub invariant-well_aggregates-loop-aggregate : goal.invariant-well_aggregates-loop-aggregate
invariant-well_aggregates-loop-aggregate l =
    are_well_aggregates (view_aggregates (drop l.aggregate-index l.aggregate-items)) ≡ are_well_aggregates (view_aggregates l.aggregates)

abbrev pub invariant-well_order-loop-item : goal.invariant-well_order-loop-item
invariant-well_order-loop-item l = are_well_orders (view_orders (drop l.item-index l.item-items)) ≡ are_well_orders (view_orders l.order)
