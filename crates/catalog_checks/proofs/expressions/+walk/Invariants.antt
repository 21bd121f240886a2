use Rattle.std.proofs.Common.{◌≡◌, ◌≤◌, min, drop}
use Rattle.sql_tree.specs.View.{view_trees, view_arms, view_aggregates, view_orders}
use Rattle.catalog_objects.specs.catalog_rules.Ranks.{trees_rank, arms_rank, aggregates_rank, orders_rank}
use Rattle.catalog_checks.specs.Asking.{asked_of, sight_of}
use Rattle.catalog_checks.proofs.expressions.+walk.Given as goal

abbrev pub invariant-exprs-loop-e : goal.invariant-exprs-loop-e
invariant-exprs-loop-e l =
    (l.rank ≤ 10) × (min l.rank (trees_rank (asked_of l.checks) (view_trees (drop l.e-index l.e-items)) (sight_of l.sight)) ≡ trees_rank (asked_of l.checks) (view_trees l.list) (sight_of l.sight))

abbrev pub invariant-arms-loop-arm : goal.invariant-arms-loop-arm
invariant-arms-loop-arm l =
    (l.rank ≤ 10) × (min l.rank (arms_rank (asked_of l.checks) (view_arms (drop l.arm-index l.arm-items)) (sight_of l.sight)) ≡ arms_rank (asked_of l.checks) (view_arms l.list) (sight_of l.sight))

abbrev pub invariant-aggregates-loop-aggregate : goal.invariant-aggregates-loop-aggregate
invariant-aggregates-loop-aggregate l =
    (l.rank ≤ 10) × (min l.rank (aggregates_rank (asked_of l.checks) (view_aggregates (drop l.aggregate-index l.aggregate-items)) (sight_of l.sight)) ≡ aggregates_rank (asked_of l.checks) (view_aggregates l.list) (sight_of l.sight))

abbrev pub invariant-order-loop-item : goal.invariant-order-loop-item
invariant-order-loop-item l =
    (l.rank ≤ 10) × (min l.rank (orders_rank (asked_of l.checks) (view_orders (drop l.item-index l.item-items)) (sight_of l.sight)) ≡ orders_rank (asked_of l.checks) (view_orders l.list) (sight_of l.sight))
