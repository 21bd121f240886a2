use Rattle.std.proofs.Common.{◌≡◌, ◌+◌, ◌*◌, drop, cond}
use Rattle.sql_tree.specs.declared.expressions.Expr.{Binary, In, Case, Func2, Func3}
use Rattle.sql_tree.proofs.expressions.Expr.TheLaws.{the_size}
use Rattle.sql_tree.specs.View.{view_trees, view_arms, view_aggregates, view_orders}
use Rattle.sql_print.specs.Spelling.{trees_text, more_trees_text, arms_text, aggregates_text, more_aggregates_text, orders_text, more_orders_text}
use Rattle.name_const_length.specs.Closed.{closed_trees, closed_arms, closed_aggregates, closed_orders}
use Rattle.name_const_length.specs.Growing.{grown}
use Rattle.name_const_length.proofs.expressions.+add.Given as goal

-- Each measure is ten times the depth of what is measured, and a number that falls where a function
-- hands on what it was given.

abbrev pub decreases-add_query : goal.decreases-add_query
decreases-add_query l = 10 * goal.size-add_query l + 9

abbrev pub decreases-add_select : goal.decreases-add_select
decreases-add_select l = 10 * goal.size-add_select l + 8

abbrev pub decreases-add_selection : goal.decreases-add_selection
decreases-add_selection l = 10 * goal.size-add_selection l + 7

abbrev pub decreases-add_from : goal.decreases-add_from
decreases-add_from l = 10 * goal.size-add_from l + 7

abbrev pub decreases-add_aggregates : goal.decreases-add_aggregates
decreases-add_aggregates l = 10 * goal.size-add_aggregates l + 6

abbrev pub decreases-add_call : goal.decreases-add_call
decreases-add_call l = 10 * goal.size-add_call l + 5

abbrev pub decreases-add_floor_rand : goal.decreases-add_floor_rand
decreases-add_floor_rand l = 10 * goal.size-add_floor_rand l + 5

abbrev pub decreases-add_arm : goal.decreases-add_arm
decreases-add_arm l = 10 * goal.size-add_arm l + 3

abbrev pub decreases-add_aggregate : goal.decreases-add_aggregate
decreases-add_aggregate l = 10 * goal.size-add_aggregate l + 5

abbrev pub decreases-add_item : goal.decreases-add_item
decreases-add_item l = 10 * goal.size-add_item l + 3

abbrev pub decreases-add_clause : goal.decreases-add_clause
decreases-add_clause l = 10 * goal.size-add_clause l + 6

abbrev pub decreases-add_on_many : goal.decreases-add_on_many
decreases-add_on_many l = 10 * goal.size-add_on_many l + 5

abbrev pub decreases-add_exprs : goal.decreases-add_exprs
decreases-add_exprs l = 10 * goal.size-add_exprs l + 4

abbrev pub decreases-add_order : goal.decreases-add_order
decreases-add_order l = 10 * goal.size-add_order l + 4

abbrev pub decreases-add_arms : goal.decreases-add_arms
decreases-add_arms l = 10 * goal.size-add_arms l + 4

abbrev pub decreases-add_else : goal.decreases-add_else
decreases-add_else l = 10 * goal.size-add_else l + 4

abbrev pub decreases-add_where : goal.decreases-add_where
decreases-add_where l = 10 * goal.size-add_where l + 4

abbrev pub decreases-add_unary : goal.decreases-add_unary
decreases-add_unary l = 10 * goal.size-add_unary l + 4

abbrev pub decreases-add_on_one : goal.decreases-add_on_one
decreases-add_on_one l = 10 * goal.size-add_on_one l + 4

abbrev pub decreases-add_next : goal.decreases-add_next
decreases-add_next l = 10 * goal.size-add_next l + 4

abbrev pub decreases-add_factor : goal.decreases-add_factor
decreases-add_factor l = 10 * goal.size-add_factor l + 4

abbrev pub decreases-add_expr : goal.decreases-add_expr
decreases-add_expr l = 10 * goal.size-add_expr l + 1

abbrev pub decreases-add_binary : goal.decreases-add_binary
decreases-add_binary l = 10 * the_size (Binary l.op l.a.now l.b.now)

abbrev pub decreases-add_membership : goal.decreases-add_membership
decreases-add_membership l = 10 * the_size (In l.negated l.left.now l.items.now)

abbrev pub decreases-add_case : goal.decreases-add_case
decreases-add_case l = 10 * the_size (Case l.arms.now l.otherwise.now)

abbrev pub decreases-add_on_two : goal.decreases-add_on_two
decreases-add_on_two l = 10 * the_size (Func2 l.function l.a.now l.b.now)

abbrev pub decreases-add_on_three : goal.decreases-add_on_three
decreases-add_on_three l = 10 * the_size (Func3 l.function l.a.now l.b.now l.c.now)

abbrev pub invariant-add_exprs-loop-expr : goal.invariant-add_exprs-loop-expr
invariant-add_exprs-loop-expr l =
    let rest = closed_trees l.locals (view_trees (drop l.expr-index l.expr-items)) in
    grown l.total (cond l.first (trees_text rest) (more_trees_text rest)) ≡ grown l.fn.total (trees_text (closed_trees l.locals (view_trees l.exprs)))

abbrev pub invariant-add_arms-loop-arm : goal.invariant-add_arms-loop-arm
invariant-add_arms-loop-arm l =
    grown l.total (arms_text (closed_arms l.locals (view_arms (drop l.arm-index l.arm-items)))) ≡ grown l.fn.total (arms_text (closed_arms l.locals (view_arms l.arms)))

abbrev pub invariant-add_aggregates-loop-aggregate : goal.invariant-add_aggregates-loop-aggregate
invariant-add_aggregates-loop-aggregate l =
    let rest = closed_aggregates l.locals (view_aggregates (drop l.aggregate-index l.aggregate-items)) in
    grown l.total (cond l.first (aggregates_text rest) (more_aggregates_text rest)) ≡ grown l.fn.total (aggregates_text (closed_aggregates l.locals (view_aggregates l.aggregates)))

abbrev pub invariant-add_order-loop-item : goal.invariant-add_order-loop-item
invariant-add_order-loop-item l =
    let rest = closed_orders l.locals (view_orders (drop l.item-index l.item-items)) in
    grown l.total (cond l.first (orders_text rest) (more_orders_text rest)) ≡ grown l.fn.total (orders_text (closed_orders l.locals (view_orders l.order)))
