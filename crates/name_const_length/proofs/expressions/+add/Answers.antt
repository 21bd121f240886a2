use Rattle.std.proofs.Common.{◌≡◌, ◌∙◌, ◌+◌, ℕ, Bool, List, Option, Some, codes, cond, drop, ap, sym, subst}
use Rattle.sql_tree.specs.declared.expressions.Expr.{Expr}
use Rattle.val_types.specs.declared.ops.Agg.{Agg}
use Rattle.sql_tree.specs.Tree.{Tree, Origin, Query}
use Rattle.sql_tree.specs.declared.expressions.Arm.{Arm, out-Arm}
use Rattle.sql_tree.specs.declared.expressions.FromClause.{out-FromClause}
use Rattle.sql_tree.specs.declared.expressions.Select.{out-Select}
use Rattle.sql_tree.specs.declared.expressions.Aggregate.{Aggregate}
use Rattle.sql_tree.specs.declared.expressions.OrderItem.{OrderItem, out-OrderItem}
use Rattle.sql_tree.specs.View.{view_tree, view_trees, view_arm, view_arms, view_aggregate, view_aggregates, view_order, view_orders, view_origin, view_part, view_selected}
use Rattle.sql_print.specs.Names.{limit_if, quoted_name}
use Rattle.sql_print.specs.Spelling.{aggregate_of, direction_of, origin_text, query_text, selected_text, where_text, tree_text, trees_text, more_trees_text, arms_text, aggregates_text, more_aggregates_text, orders_text, more_orders_text}
use Rattle.name_const_length.specs.Closed.{closed_tree, closed_trees, closed_arms, closed_aggregates, closed_limit, closed_orders, closed_origin, closed_part, closed_query, closed_selected}
use Rattle.name_const_length.specs.Growing.{grown}
use Rattle.name_const_length.specs.Items.{comma, order_words, arm_text, closed_arm, aggregate_text, closed_aggregate, item_text, closed_item}
use Rattle.name_const_length.proofs.Aggregates.{by-first}
use Rattle.name_const_length.proofs.Growing.{next, next_alone, drop-one, start, step}
use Rattle.name_const_length.proofs.Structs.{arm_is, aggregate_is, item_is, from_is, select_is}
use Rattle.name_const_length.proofs.expressions.+add.Goals as goal

pub add_exprs-loop-expr-preserved : goal.add_exprs-loop-expr-preserved
add_exprs-loop-expr-preserved t c =
    let all = c.as_slice-expr-items.result.now in
    let k = c.loop-expr.expr-index in
    let locals = c.args.locals.now in
    let whole = grown c.args.total.now (trees_text (closed_trees locals (view_trees c.args.exprs.now))) in
    next comma c.loop-expr.first c.loop-expr.total c.add_comma.new.total c.add_expr.new.total whole
    (tree_text (closed_tree locals (view_tree c.expr-item.result))) (more_trees_text (closed_trees locals (view_trees (drop (k + 1) all)))) c.add_comma.ensures c.add_expr.ensures
    (subst (λ (es : List Expr). grown c.loop-expr.total (cond c.loop-expr.first (trees_text (closed_trees locals (view_trees es))) (more_trees_text (closed_trees locals (view_trees es)))) ≡ whole)
    (drop-one all k c.expr-item.result c.loop-expr-test.true c.expr-item.is) c.loop-expr.invariant)

pub add_arms-loop-arm-preserved : goal.add_arms-loop-arm-preserved
add_arms-loop-arm-preserved t c =
    let all = c.as_slice-arm-items.result.now in
    let k = c.loop-arm.arm-index in
    let locals = c.args.locals.now in
    let whole = grown c.args.total.now (arms_text (closed_arms locals (view_arms c.args.arms.now))) in
    next_alone c.loop-arm.total c.add_arm.new.total whole
    (arm_text (closed_arm locals (view_arm c.arm-item.result))) (arms_text (closed_arms locals (view_arms (drop (k + 1) all)))) c.add_arm.ensures
    (subst (λ (as' : List Arm). grown c.loop-arm.total (arms_text (closed_arms locals (view_arms as'))) ≡ whole)
    (drop-one all k c.arm-item.result c.loop-arm-test.true c.arm-item.is) c.loop-arm.invariant)

pub add_aggregates-loop-aggregate-preserved : goal.add_aggregates-loop-aggregate-preserved
add_aggregates-loop-aggregate-preserved t c =
    let all = c.as_slice-aggregate-items.result.now in
    let k = c.loop-aggregate.aggregate-index in
    let locals = c.args.locals.now in
    let whole = grown c.args.total.now (aggregates_text (closed_aggregates locals (view_aggregates c.args.aggregates.now))) in
    next comma c.loop-aggregate.first c.loop-aggregate.total c.add_comma.new.total c.add_aggregate.new.total whole
    (aggregate_text (closed_aggregate locals (view_aggregate c.aggregate-item.result))) (more_aggregates_text (closed_aggregates locals (view_aggregates (drop (k + 1) all)))) c.add_comma.ensures c.add_aggregate.ensures
    (ap (λ (text : List ℕ). grown c.loop-aggregate.total text) (sym (by-first locals c.loop-aggregate.first (view_aggregate c.aggregate-item.result) (view_aggregates (drop (k + 1) all))))
    ∙ subst (λ (as' : List Aggregate). grown c.loop-aggregate.total (cond c.loop-aggregate.first (aggregates_text (closed_aggregates locals (view_aggregates as'))) (more_aggregates_text (closed_aggregates locals (view_aggregates as')))) ≡ whole)
    (drop-one all k c.aggregate-item.result c.loop-aggregate-test.true c.aggregate-item.is) c.loop-aggregate.invariant)

pub add_order-loop-item-preserved : goal.add_order-loop-item-preserved
add_order-loop-item-preserved t c =
    let all = c.as_slice-item-items.result.now in
    let k = c.loop-item.item-index in
    let locals = c.args.locals.now in
    let whole = grown c.args.total.now (orders_text (closed_orders locals (view_orders c.args.order.now))) in
    next order_words c.loop-item.first c.loop-item.total c.add_order_words.new.total c.add_item.new.total whole
    (item_text (closed_item locals (view_order c.item-item.result))) (more_orders_text (closed_orders locals (view_orders (drop (k + 1) all)))) c.add_order_words.ensures c.add_item.ensures
    (subst (λ (os : List OrderItem). grown c.loop-item.total (cond c.loop-item.first (orders_text (closed_orders locals (view_orders os))) (more_orders_text (closed_orders locals (view_orders os)))) ≡ whole)
    (drop-one all k c.item-item.result c.loop-item-test.true c.item-item.is) c.loop-item.invariant)

pub add_arm-returns : goal.add_arm-returns
add_arm-returns t c =
    let a = c.args.arm.now in
    let locals = c.args.locals.now in
    let begun = start c.args.total.now c.add.new.total (codes " WHEN ") c.add.ensures in
    let condition = step c.add_expr.new.total (tree_text (closed_tree locals (view_tree (out-Arm a).condition))) begun c.add_expr.ensures in
    let words = step c.add-2.new.total (codes " THEN ") condition c.add-2.ensures in
    subst (λ (x : Tree × Tree). c.add_expr-2.new.total ≡ grown c.args.total.now (arm_text (closed_arm locals x))) (sym (arm_is a))
    (step c.add_expr-2.new.total (tree_text (closed_tree locals (view_tree (out-Arm a).value))) words c.add_expr-2.ensures).is

pub add_aggregate-returns-in-Of : goal.add_aggregate-returns-in-Of
add_aggregate-returns-in-Of t c =
    let f = c.in-Of.function in
    let e = c.get.result.now in
    let locals = c.args.locals.now in
    let begun = start c.args.total.now c.add_aggregate_name.new.total (aggregate_of f) c.add_aggregate_name.ensures in
    let argument = step c.add_expr.new.total (tree_text (closed_tree locals (view_tree e))) begun c.add_expr.ensures in
    subst (λ (x : Option (Agg × Tree)). c.add-in-Of.new.total ≡ grown c.args.total.now (aggregate_text (closed_aggregate locals x))) (sym (ap view_aggregate c.in-Of.is ∙ aggregate_is f c.in-Of.expr ∙ ap (λ (x : Expr). Some (f, view_tree x)) (sym c.get.ensures)))
    (step c.add-in-Of.new.total (codes ")") argument c.add-in-Of.ensures).is

pub add_item-returns : goal.add_item-returns
add_item-returns t c =
    let o = c.args.item.now in
    let locals = c.args.locals.now in
    let by = start c.args.total.now c.add_expr.new.total (tree_text (closed_tree locals (view_tree (out-OrderItem o).by))) c.add_expr.ensures in
    subst (λ (x : Tree × Bool). c.add_direction.new.total ≡ grown c.args.total.now (item_text (closed_item locals x))) (sym (item_is o))
    (step c.add_direction.new.total (direction_of (out-OrderItem o).descending) by c.add_direction.ensures).is

pub add_clause-returns : goal.add_clause-returns
add_clause-returns t c =
    let f = c.args.from.now in
    let locals = c.args.locals.now in
    let begun = start c.args.total.now c.add.new.total (codes " FROM ") c.add.ensures in
    let table = step c.add_name.new.total (quoted_name (out-FromClause f).table) begun c.add_name.ensures in
    let filter = step c.add_where.new.total (where_text (closed_part locals (view_part (out-FromClause f).filter))) table c.add_where.ensures in
    let order = step c.add_order.new.total (orders_text (closed_orders locals (view_orders (out-FromClause f).order))) filter c.add_order.ensures in
    subst (λ (x : Origin). c.add_limit_if.new.total ≡ grown c.args.total.now (origin_text (closed_origin locals x))) (sym (from_is f))
    (step c.add_limit_if.new.total (limit_if (closed_limit locals (out-FromClause f).limit)) order c.add_limit_if.ensures).is

pub add_select-returns : goal.add_select-returns
add_select-returns t c =
    let q = c.args.select.now in
    let locals = c.args.locals.now in
    let begun = start c.args.total.now c.add.new.total (codes "SELECT ") c.add.ensures in
    let what = step c.add_selection.new.total (selected_text (closed_selected locals (view_selected (out-Select q).what))) begun c.add_selection.ensures in
    subst (λ (x : Query). c.add_from.new.total ≡ grown c.args.total.now (query_text (closed_query locals x))) (sym (select_is q))
    (step c.add_from.new.total (origin_text (closed_origin locals (view_origin (out-Select q).from))) what c.add_from.ensures).is
