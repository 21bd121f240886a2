-- What the structs of expressions are seen as, field by field.
use Rattle.std.proofs.Common.{◌≡◌, ℕ, Bool, List, Option, Some, None, refl, rules, ◌∙◌}
use Rattle.val_types.specs.declared.ops.Agg.{Agg}
use Rattle.sql_tree.specs.Tree.{Tree, Selected, Origin, Query, query, from_table}
use Rattle.sql_tree.specs.View.{view_aggregate, view_arm, view_from, view_order, view_orders, view_origin, view_part, view_query, view_selected, view_tree, aggregate_step, arm_step, order_step, origin_step, query_step, selected_step, tree_step}
use Rattle.sql_tree.specs.declared.expressions.Aggregate.{Aggregate, Of, the_lemmas}
use Rattle.sql_tree.specs.declared.expressions.Aggregate.TheFolds.{fold_out-Arm, fold_out-FromClause, fold_out-OrderItem, fold_out-Select, map-FromClause, map-Select}
use Rattle.sql_tree.specs.declared.expressions.Arm.{Arm, out-Arm}
use Rattle.sql_tree.specs.declared.expressions.Expr.{Expr}
use Rattle.sql_tree.specs.declared.expressions.FromClause.{FromClause, out-FromClause}
use Rattle.sql_tree.specs.declared.expressions.Limit.{Limit}
use Rattle.sql_tree.specs.declared.expressions.OrderItem.{OrderItem, out-OrderItem}
use Rattle.sql_tree.specs.declared.expressions.Select.{Select, out-Select}
use Rattle.sql_tree.specs.declared.expressions.Selection.{Selection}

pub arm_is : (a : Arm) → view_arm a ≡ (view_tree (out-Arm a).condition, view_tree (out-Arm a).value)
arm_is a = fold_out-Arm (Option (Agg × Tree)) Tree Selected (Tree × Tree) Origin (Tree × Bool) Query aggregate_step tree_step selected_step arm_step origin_step order_step query_step a

pub aggregate_is : (f : Agg) (e : Expr) → view_aggregate (Of f e) ≡ Some (f, view_tree e)
aggregate_is f e = search (rules, the_lemmas)

pub item_is : (o : OrderItem) → view_order o ≡ (view_tree (out-OrderItem o).by, (out-OrderItem o).descending)
item_is o = fold_out-OrderItem (Option (Agg × Tree)) Tree Selected (Tree × Tree) Origin (Tree × Bool) Query aggregate_step tree_step selected_step arm_step origin_step order_step query_step o

from_level : (table : List ℕ) (filter : Option Expr) (order : List OrderItem) (limit : Option Limit)
    → origin_step (map-FromClause Aggregate Expr Selection Arm FromClause OrderItem Select (Option (Agg × Tree)) Tree Selected (Tree × Tree) Origin (Tree × Bool) Query view_aggregate view_tree view_selected view_arm view_from view_order view_query (record { table = table; filter = filter; order = order; limit = limit })) ≡ from_table table (view_part filter) (view_orders order) limit
from_level table None order limit = refl
from_level table (Some e) order limit = refl

pub from_is : (f : FromClause) → view_from f ≡ from_table (out-FromClause f).table (view_part (out-FromClause f).filter) (view_orders (out-FromClause f).order) (out-FromClause f).limit
from_is f =
    fold_out-FromClause (Option (Agg × Tree)) Tree Selected (Tree × Tree) Origin (Tree × Bool) Query aggregate_step tree_step selected_step arm_step origin_step order_step query_step f
    ∙ from_level (out-FromClause f).table (out-FromClause f).filter (out-FromClause f).order (out-FromClause f).limit

select_level : (what : Selection) (from : Option FromClause)
    → query_step (map-Select Aggregate Expr Selection Arm FromClause OrderItem Select (Option (Agg × Tree)) Tree Selected (Tree × Tree) Origin (Tree × Bool) Query view_aggregate view_tree view_selected view_arm view_from view_order view_query (record { what = what; from = from })) ≡ query (view_selected what) (view_origin from)
select_level what None = refl
select_level what (Some f) = refl

pub select_is : (q : Select) → view_query q ≡ query (view_selected (out-Select q).what) (view_origin (out-Select q).from)
select_is q =
    fold_out-Select (Option (Agg × Tree)) Tree Selected (Tree × Tree) Origin (Tree × Bool) Query aggregate_step tree_step selected_step arm_step origin_step order_step query_step q
    ∙ select_level (out-Select q).what (out-Select q).from
