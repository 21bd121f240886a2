use Rattle.std.proofs.Common.{◌≡◌, ◌-◌, ◌^◌, ◌<◌, min, max, drop}
use Rattle.sql_tree.specs.Depth.{depth_of_trees, depth_of_arms, depth_of_aggregates, depth_of_orders}
use Rattle.sql_tree.specs.View.{view_trees, view_arms, view_aggregates, view_orders}
use Rattle.sql_tree.proofs.expression_depth.+depth.Given as goal

abbrev pub invariant-list_depth-loop-expr : goal.invariant-list_depth-loop-expr
invariant-list_depth-loop-expr l =
    (l.most < 2 ^ 32) × (min (max l.most (depth_of_trees (view_trees (drop l.expr-index l.expr-items)))) (2 ^ 32 - 1) ≡ min (depth_of_trees (view_trees l.exprs)) (2 ^ 32 - 1))

abbrev pub invariant-arms_depth-loop-arm : goal.invariant-arms_depth-loop-arm
invariant-arms_depth-loop-arm l =
    (l.most < 2 ^ 32) × (min (max l.most (depth_of_arms (view_arms (drop l.arm-index l.arm-items)))) (2 ^ 32 - 1) ≡ min (depth_of_arms (view_arms l.arms)) (2 ^ 32 - 1))

abbrev pub invariant-aggregates_depth-loop-aggregate : goal.invariant-aggregates_depth-loop-aggregate
invariant-aggregates_depth-loop-aggregate l =
    (l.most < 2 ^ 32) × (min (max l.most (depth_of_aggregates (view_aggregates (drop l.aggregate-index l.aggregate-items)))) (2 ^ 32 - 1) ≡ min (depth_of_aggregates (view_aggregates l.aggregates)) (2 ^ 32 - 1))

abbrev pub invariant-order_depth-loop-item : goal.invariant-order_depth-loop-item
invariant-order_depth-loop-item l =
    (l.most < 2 ^ 32) × (min (max l.most (depth_of_orders (view_orders (drop l.item-index l.item-items)))) (2 ^ 32 - 1) ≡ min (depth_of_orders (view_orders l.order)) (2 ^ 32 - 1))
