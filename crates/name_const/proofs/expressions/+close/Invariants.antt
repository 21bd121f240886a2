use Rattle.std.proofs.Common.{◌≡◌, ◌+◌, ◌*◌, map, take}
use Rattle.sql_tree.specs.View.{view_tree, view_arm, view_aggregate, view_order}
use Rattle.name_const_names.specs.name_const_length.Closed.{closed_tree}
use Rattle.name_const_names.specs.name_const_length.Items.{closed_arm, closed_aggregate, closed_item}
use Rattle.name_const.proofs.expressions.+close.Given as goal

-- Each measure is ten times the depth of what is closed, and a number that falls where a function
-- hands on what it was given.

abbrev pub decreases-close_query : goal.decreases-close_query
decreases-close_query l = 10 * goal.size-close_query l + 9

abbrev pub decreases-close_select : goal.decreases-close_select
decreases-close_select l = 10 * goal.size-close_select l + 8

abbrev pub decreases-close_selection : goal.decreases-close_selection
decreases-close_selection l = 10 * goal.size-close_selection l + 7

abbrev pub decreases-close_from : goal.decreases-close_from
decreases-close_from l = 10 * goal.size-close_from l + 7

abbrev pub decreases-close_aggregates : goal.decreases-close_aggregates
decreases-close_aggregates l = 10 * goal.size-close_aggregates l + 6

abbrev pub decreases-close_aggregate : goal.decreases-close_aggregate
decreases-close_aggregate l = 10 * goal.size-close_aggregate l + 5

abbrev pub decreases-close_order : goal.decreases-close_order
decreases-close_order l = 10 * goal.size-close_order l + 4

abbrev pub decreases-close_exprs : goal.decreases-close_exprs
decreases-close_exprs l = 10 * goal.size-close_exprs l + 4

abbrev pub decreases-close_arms : goal.decreases-close_arms
decreases-close_arms l = 10 * goal.size-close_arms l + 4

abbrev pub decreases-close_arm : goal.decreases-close_arm
decreases-close_arm l = 10 * goal.size-close_arm l + 3

abbrev pub decreases-close_part : goal.decreases-close_part
decreases-close_part l = 10 * goal.size-close_part l + 5

abbrev pub decreases-close_boxed : goal.decreases-close_boxed
decreases-close_boxed l = 10 * goal.size-close_boxed l + 4

abbrev pub decreases-close_expr : goal.decreases-close_expr
decreases-close_expr l = 10 * goal.size-close_expr l + 1

abbrev pub invariant-close_exprs-loop-expr : goal.invariant-close_exprs-loop-expr
invariant-close_exprs-loop-expr l = map view_tree l.copy ≡ map (λ x. closed_tree l.locals (view_tree x)) (take l.expr-index l.expr-items)

abbrev pub invariant-close_arms-loop-arm : goal.invariant-close_arms-loop-arm
invariant-close_arms-loop-arm l = map view_arm l.copy ≡ map (λ x. closed_arm l.locals (view_arm x)) (take l.arm-index l.arm-items)

abbrev pub invariant-close_aggregates-loop-aggregate : goal.invariant-close_aggregates-loop-aggregate
invariant-close_aggregates-loop-aggregate l = map view_aggregate l.copy ≡ map (λ x. closed_aggregate l.locals (view_aggregate x)) (take l.aggregate-index l.aggregate-items)

abbrev pub invariant-close_order-loop-item : goal.invariant-close_order-loop-item
invariant-close_order-loop-item l = map view_order l.copy ≡ map (λ x. closed_item l.locals (view_order x)) (take l.item-index l.item-items)
