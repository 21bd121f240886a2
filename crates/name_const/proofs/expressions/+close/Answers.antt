use Rattle.std.proofs.Common.{◌∙◌, List, ap, sym, map}
use Rattle.sql_tree.specs.View.{view_tree, view_arm, view_aggregate, view_order, trees_of, arms_of, aggregates_of, orders_of}
use Rattle.sql_tree.specs.View.{view_trees, view_arms, view_aggregates, view_orders}
use Rattle.sql_tree.specs.declared.expressions.Expr.{Expr}
use Rattle.sql_tree.specs.declared.expressions.Arm.{Arm}
use Rattle.sql_tree.specs.declared.expressions.Aggregate.{Aggregate}
use Rattle.sql_tree.specs.declared.expressions.OrderItem.{OrderItem}
use Rattle.name_const_names.specs.name_const_length.Closed.{closed_tree, closed_trees, closed_arms, closed_aggregates, closed_orders}
use Rattle.name_const_names.specs.name_const_length.Items.{closed_arm, closed_aggregate, closed_item}
use Rattle.name_const.proofs.Listing.{all-made, trees-items, arms-items, aggregates-items, orders-items}
use Rattle.name_const.proofs.expressions.+close.Goals as goal

pub close_exprs-returns : goal.close_exprs-returns
close_exprs-returns t c =
    let locals = c.args.locals.now in
    let all = c.as_slice-expr-items.result.now in
    ap trees_of (all-made view_tree (closed_tree locals) view_tree c.loop-expr.copy all c.loop-expr.expr-index c.loop-expr-test.false c.loop-expr.invariant)
    ∙ sym (trees-items locals (map view_tree all)) ∙ ap (λ (items : List Expr). closed_trees locals (view_trees items)) c.as_slice-expr-items.ensures

pub close_arms-returns : goal.close_arms-returns
close_arms-returns t c =
    let locals = c.args.locals.now in
    let all = c.as_slice-arm-items.result.now in
    ap arms_of (all-made view_arm (closed_arm locals) view_arm c.loop-arm.copy all c.loop-arm.arm-index c.loop-arm-test.false c.loop-arm.invariant)
    ∙ sym (arms-items locals (map view_arm all)) ∙ ap (λ (items : List Arm). closed_arms locals (view_arms items)) c.as_slice-arm-items.ensures

pub close_aggregates-returns : goal.close_aggregates-returns
close_aggregates-returns t c =
    let locals = c.args.locals.now in
    let all = c.as_slice-aggregate-items.result.now in
    ap aggregates_of (all-made view_aggregate (closed_aggregate locals) view_aggregate c.loop-aggregate.copy all c.loop-aggregate.aggregate-index c.loop-aggregate-test.false c.loop-aggregate.invariant)
    ∙ sym (aggregates-items locals (map view_aggregate all)) ∙ ap (λ (items : List Aggregate). closed_aggregates locals (view_aggregates items)) c.as_slice-aggregate-items.ensures

pub close_order-returns : goal.close_order-returns
close_order-returns t c =
    let locals = c.args.locals.now in
    let all = c.as_slice-item-items.result.now in
    ap orders_of (all-made view_order (closed_item locals) view_order c.loop-item.copy all c.loop-item.item-index c.loop-item-test.false c.loop-item.invariant)
    ∙ sym (orders-items locals (map view_order all)) ∙ ap (λ (items : List OrderItem). closed_orders locals (view_orders items)) c.as_slice-item-items.ensures
