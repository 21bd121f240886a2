use Rattle.std.proofs.Common.{◌≡◌, ◌+◌, ◌*◌, ◌++◌, drop, cond}
use Rattle.sql_tree.specs.declared.expressions.Expr.{Binary, In, Case, Func2, Func3}
use Rattle.sql_tree.proofs.expressions.Expr.TheLaws.{the_size}
use Rattle.sql_tree.specs.View.{view_trees, view_arms, view_aggregates, view_orders}
use Rattle.sql_print.specs.Spelling.{trees_text, more_trees_text, arms_text, aggregates_text, more_aggregates_text, orders_text, more_orders_text}
use Rattle.sql_print.proofs.expressions.+write.Given as goal

-- Each measure is ten times the depth of what is written, and a number that falls where a function
-- hands on what it was given.

abbrev pub decreases-write_query : goal.decreases-write_query
decreases-write_query l = 10 * goal.size-write_query l + 9

abbrev pub decreases-write_select : goal.decreases-write_select
decreases-write_select l = 10 * goal.size-write_select l + 8

abbrev pub decreases-write_selection : goal.decreases-write_selection
decreases-write_selection l = 10 * goal.size-write_selection l + 7

abbrev pub decreases-write_from : goal.decreases-write_from
decreases-write_from l = 10 * goal.size-write_from l + 7

abbrev pub decreases-write_aggregates : goal.decreases-write_aggregates
decreases-write_aggregates l = 10 * goal.size-write_aggregates l + 6

abbrev pub decreases-write_arguments : goal.decreases-write_arguments
decreases-write_arguments l = 10 * goal.size-write_arguments l + 5

abbrev pub decreases-write_on_many : goal.decreases-write_on_many
decreases-write_on_many l = 10 * goal.size-write_on_many l + 5

abbrev pub decreases-write_exprs : goal.decreases-write_exprs
decreases-write_exprs l = 10 * goal.size-write_exprs l + 4

abbrev pub decreases-write_order : goal.decreases-write_order
decreases-write_order l = 10 * goal.size-write_order l + 4

abbrev pub decreases-write_arms : goal.decreases-write_arms
decreases-write_arms l = 10 * goal.size-write_arms l + 4

abbrev pub decreases-write_else : goal.decreases-write_else
decreases-write_else l = 10 * goal.size-write_else l + 4

abbrev pub decreases-write_where : goal.decreases-write_where
decreases-write_where l = 10 * goal.size-write_where l + 4

abbrev pub decreases-write_unary : goal.decreases-write_unary
decreases-write_unary l = 10 * goal.size-write_unary l + 4

abbrev pub decreases-write_on_one : goal.decreases-write_on_one
decreases-write_on_one l = 10 * goal.size-write_on_one l + 4

abbrev pub decreases-write_next : goal.decreases-write_next
decreases-write_next l = 10 * goal.size-write_next l + 4

abbrev pub decreases-write_factor : goal.decreases-write_factor
decreases-write_factor l = 10 * goal.size-write_factor l + 4

abbrev pub decreases-write_expr : goal.decreases-write_expr
decreases-write_expr l = 10 * goal.size-write_expr l + 1

abbrev pub decreases-write_binary : goal.decreases-write_binary
decreases-write_binary l = 10 * the_size (Binary l.op l.a.now l.b.now)

abbrev pub decreases-write_membership : goal.decreases-write_membership
decreases-write_membership l = 10 * the_size (In l.negated l.left.now l.items.now)

abbrev pub decreases-write_case : goal.decreases-write_case
decreases-write_case l = 10 * the_size (Case l.arms.now l.otherwise.now)

abbrev pub decreases-write_on_two : goal.decreases-write_on_two
decreases-write_on_two l = 10 * the_size (Func2 l.function l.a.now l.b.now)

abbrev pub decreases-write_on_three : goal.decreases-write_on_three
decreases-write_on_three l = 10 * the_size (Func3 l.function l.a.now l.b.now l.c.now)

abbrev pub invariant-write_exprs-loop-expr : goal.invariant-write_exprs-loop-expr
invariant-write_exprs-loop-expr l =
    let rest = view_trees (drop l.expr-index l.expr-items) in
    l.out ++ cond l.first (trees_text rest) (more_trees_text rest) ≡ l.fn.out ++ trees_text (view_trees l.exprs)

abbrev pub invariant-write_arms-loop-arm : goal.invariant-write_arms-loop-arm
invariant-write_arms-loop-arm l =
    l.out ++ arms_text (view_arms (drop l.arm-index l.arm-items)) ≡ l.fn.out ++ arms_text (view_arms l.arms)

abbrev pub invariant-write_aggregates-loop-aggregate : goal.invariant-write_aggregates-loop-aggregate
invariant-write_aggregates-loop-aggregate l =
    let rest = view_aggregates (drop l.aggregate-index l.aggregate-items) in
    l.out ++ cond l.first (aggregates_text rest) (more_aggregates_text rest) ≡ l.fn.out ++ aggregates_text (view_aggregates l.aggregates)

abbrev pub invariant-write_order-loop-item : goal.invariant-write_order-loop-item
invariant-write_order-loop-item l =
    let rest = view_orders (drop l.item-index l.item-items) in
    l.out ++ cond l.first (orders_text rest) (more_orders_text rest) ≡ l.fn.out ++ orders_text (view_orders l.order)
