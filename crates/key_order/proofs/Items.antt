-- The items of ORDER BY.
use Rattle.std.proofs.Common.{◌≡◌, Bool}
use Rattle.sql_tree.specs.Tree.{Tree, Query, Selected, Origin}
use Rattle.val_types.specs.declared.ops.Agg.{Agg}
use Rattle.std.specs.Prelude.{Option}
use Rattle.sql_tree.specs.declared.expressions.OrderItem.{OrderItem, out-OrderItem}
use Rattle.sql_tree.specs.declared.expressions.Aggregate.TheFolds.{fold_out-OrderItem}
use Rattle.sql_tree.specs.View.{view_tree, view_order, aggregate_step, tree_step, selected_step, arm_step, origin_step, order_step, query_step}

pub order_of_out : (x : OrderItem) → view_order x ≡ (view_tree (out-OrderItem x).by, (out-OrderItem x).descending)
order_of_out x = fold_out-OrderItem (Option (Agg × Tree)) Tree Selected (Tree × Tree) Origin (Tree × Bool) Query aggregate_step tree_step selected_step arm_step origin_step order_step query_step x

pub ruleset items = (order_of_out)
