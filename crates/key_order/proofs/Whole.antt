-- A table that is looked at as it stands.
use Rattle.std.proofs.Common.{rules, ◌≡◌, ℕ, List, [], Bool, true, Option, Some, None, Result, IsTrue, ◌↔◌, refl, sym, subst, ◌∙◌}
use Rattle.val_types.specs.declared.value.Value.{Value}
use Rattle.val_types.specs.declared.ops.Agg.{Agg}
use Rattle.table_rules.specs.Tables.{Table}
use Rattle.sql_tree.specs.Tree.{Tree, Query, Selected, aggregates, Origin, from_table, no_part, no_order}
use Rattle.sql_tree.specs.View.{view_aggregate, view_aggregates, view_tree, view_selected, view_arm, view_from, view_order, view_orders, view_part, view_query, aggregate_step, tree_step, selected_step, arm_step, origin_step, order_step, query_step}
use Rattle.sql_tree.specs.declared.expressions.Aggregate.{Aggregate}
use Rattle.sql_tree.specs.declared.expressions.Expr.{Expr}
use Rattle.sql_tree.specs.declared.expressions.Arm.{Arm}
use Rattle.sql_tree.specs.declared.expressions.Selection.{Selection, Aggregates, the_lemmas}
use Rattle.sql_tree.specs.declared.expressions.Select.{Select}
use Rattle.sql_tree.specs.declared.expressions.OrderItem.{OrderItem}
use Rattle.sql_tree.specs.declared.expressions.Limit.{Limit}
use Rattle.sql_tree.specs.declared.expressions.FromClause.{FromClause, out-FromClause}
use Rattle.sql_tree.specs.declared.expressions.Aggregate.TheFolds.{fold_out-FromClause, map-FromClause}
use Rattle.where_candidates.specs.where_keys.declared.outside.Outside.{Outside}
use Rattle.key_order.specs.Given.{IsWholeAnswer}

from_level : (table : List ℕ) (filter : Option (Expr)) (order : List OrderItem) (limit : Option Limit)
    → origin_step (map-FromClause Aggregate Expr Selection Arm FromClause OrderItem Select (Option (Agg × Tree)) Tree Selected (Tree × Tree) Origin (Tree × Bool) Query view_aggregate view_tree view_selected view_arm view_from view_order view_query (record { table = table; filter = filter; order = order; limit = limit })) ≡ from_table table (view_part filter) (view_orders order) limit
from_level table None order limit = refl
from_level table (Some e) order limit = refl

pub from_of_out : (f : FromClause) → view_from f ≡ from_table (out-FromClause f).table (view_part (out-FromClause f).filter) (view_orders (out-FromClause f).order) (out-FromClause f).limit
from_of_out f =
    fold_out-FromClause (Option (Agg × Tree)) Tree Selected (Tree × Tree) Origin (Tree × Bool) Query aggregate_step tree_step selected_step arm_step origin_step order_step query_step f
    ∙ from_level (out-FromClause f).table (out-FromClause f).filter (out-FromClause f).order (out-FromClause f).limit

pub nothing_else : (f : FromClause) (b : Bool) → (out-FromClause f).filter ≡ None → (out-FromClause f).limit ≡ None → (IsTrue b ↔ ((out-FromClause f).order ≡ [])) → b ≡ true
    → view_from f ≡ from_table (out-FromClause f).table no_part no_order None
nothing_else f b filter limit order e =
    let none : (out-FromClause f).order ≡ [] = order.0 e in
    from_of_out f ∙ (rw (filter, limit, none) refl)

pub ruleset whole = (nothing_else)

-- a selection of aggregates
pub selected_is : (as' : List Aggregate) → view_selected (Aggregates as') ≡ aggregates (view_aggregates as')
selected_is as' = search (rules, the_lemmas)

-- of a selection of aggregates from it
pub answer_as : {E : Type 0} (o : Outside) (what : Selection) (as' : List Aggregate) (source source' : Origin) (tables : List Table) (r : Result (Option (List Value)) E)
    → view_selected what ≡ aggregates (view_aggregates as') → source ≡ source'
    → IsWholeAnswer o (aggregates (view_aggregates as')) source' tables r → IsWholeAnswer o (view_selected what) source tables r
answer_as {E = E} o what as' source source' tables r is right h =
    subst (λ (x : Selected). IsWholeAnswer {E = E} o x source tables r) (sym is) (subst (λ (x : Origin). IsWholeAnswer {E = E} o (aggregates (view_aggregates as')) x tables r) (sym right) h)
