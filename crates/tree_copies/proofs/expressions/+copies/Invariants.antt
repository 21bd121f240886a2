use Rattle.std.proofs.Common.{◌≡◌, ◌+◌, ◌*◌, take}
use Rattle.tree_copies.proofs.expressions.+copies.Given as goal

-- Each measure is ten times the depth of what is copied, and a number that falls where a function
-- hands on what it was given.

abbrev pub decreases-copy_query : goal.decreases-copy_query
decreases-copy_query l = 10 * goal.size-copy_query l + 9

abbrev pub decreases-copy_select : goal.decreases-copy_select
decreases-copy_select l = 10 * goal.size-copy_select l + 8

abbrev pub decreases-copy_selection : goal.decreases-copy_selection
decreases-copy_selection l = 10 * goal.size-copy_selection l + 7

abbrev pub decreases-copy_from : goal.decreases-copy_from
decreases-copy_from l = 10 * goal.size-copy_from l + 7

abbrev pub decreases-copy_aggregates : goal.decreases-copy_aggregates
decreases-copy_aggregates l = 10 * goal.size-copy_aggregates l + 6

abbrev pub decreases-copy_aggregate : goal.decreases-copy_aggregate
decreases-copy_aggregate l = 10 * goal.size-copy_aggregate l + 5

abbrev pub decreases-copy_order : goal.decreases-copy_order
decreases-copy_order l = 10 * goal.size-copy_order l + 4

abbrev pub decreases-copy_exprs : goal.decreases-copy_exprs
decreases-copy_exprs l = 10 * goal.size-copy_exprs l + 4

abbrev pub decreases-copy_arms : goal.decreases-copy_arms
decreases-copy_arms l = 10 * goal.size-copy_arms l + 4

abbrev pub decreases-copy_arm : goal.decreases-copy_arm
decreases-copy_arm l = 10 * goal.size-copy_arm l + 3

abbrev pub decreases-copy_part : goal.decreases-copy_part
decreases-copy_part l = 10 * goal.size-copy_part l + 5

abbrev pub decreases-copy_boxed : goal.decreases-copy_boxed
decreases-copy_boxed l = 10 * goal.size-copy_boxed l + 4

abbrev pub decreases-copy_expr : goal.decreases-copy_expr
decreases-copy_expr l = 10 * goal.size-copy_expr l + 1

abbrev pub invariant-copy_exprs-loop-expr : goal.invariant-copy_exprs-loop-expr
invariant-copy_exprs-loop-expr l = l.copy ≡ take l.expr-index l.expr-items

abbrev pub invariant-copy_arms-loop-arm : goal.invariant-copy_arms-loop-arm
invariant-copy_arms-loop-arm l = l.copy ≡ take l.arm-index l.arm-items

abbrev pub invariant-copy_aggregates-loop-aggregate : goal.invariant-copy_aggregates-loop-aggregate
invariant-copy_aggregates-loop-aggregate l = l.copy ≡ take l.aggregate-index l.aggregate-items

abbrev pub invariant-copy_order-loop-item : goal.invariant-copy_order-loop-item
invariant-copy_order-loop-item l = l.copy ≡ take l.item-index l.item-items
