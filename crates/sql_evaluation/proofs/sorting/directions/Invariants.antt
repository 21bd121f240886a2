use Rattle.std.proofs.Common.{◌≡◌, ◌++◌, drop}
use Rattle.sql_tree.specs.View.{view_orders}
use Rattle.key_order.specs.where_candidates.session_ctx.sql_meaning.Values.{directions}
use Rattle.sql_evaluation.proofs.sorting.directions.Given as goal

abbrev pub invariant-loop-item : goal.invariant-loop-item
invariant-loop-item l = l.down ++ directions (view_orders (drop l.item-index l.item-items)) ≡ directions (view_orders l.order)
