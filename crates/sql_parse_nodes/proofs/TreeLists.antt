-- Lists of parts, as the tree has them.
use Rattle.std.proofs.Common.{◌≡◌, Bool, suc, max, ap, List, [], ◌∷◌, Option, Some, None, refl}
use Rattle.val_types.specs.declared.ops.Agg.{Agg}
use Rattle.sql_tree.specs.Tree.{Tree}
use Rattle.sql_tree.specs.View.{trees_of, arms_of, aggregates_of, orders_of}
use Rattle.sql_tree.specs.Depth.{depth_of_tree, depth_of_trees, depth_of_arms, depth_of_aggregates, depth_of_orders, deepest}
use Rattle.sql_parse_nodes.specs.Kept.{depth_beside, depth_of_aggregate}

pub deepest_trees : (ts : List Tree) → depth_of_trees (trees_of ts) ≡ deepest depth_of_tree ts
deepest_trees [] = refl
deepest_trees (t ∷ ts) = ap (max (depth_of_tree t)) (deepest_trees ts)

pub deepest_arms : (as' : List (Tree × Tree)) → depth_of_arms (arms_of as') ≡ deepest (depth_beside depth_of_tree depth_of_tree) as'
deepest_arms [] = refl
deepest_arms (a ∷ as') = ap (max (max (depth_of_tree a.0) (depth_of_tree a.1))) (deepest_arms as')

pub deepest_aggregates : (as' : List (Option (Agg × Tree))) → depth_of_aggregates (aggregates_of as') ≡ deepest depth_of_aggregate as'
deepest_aggregates [] = refl
deepest_aggregates (None ∷ as') = ap (max 1) (deepest_aggregates as')
deepest_aggregates (Some a ∷ as') = ap (max (suc (depth_of_tree a.1))) (deepest_aggregates as')

pub deepest_orders : (os : List (Tree × Bool)) → depth_of_orders (orders_of os) ≡ deepest (λ o. depth_of_tree o.0) os
deepest_orders [] = refl
deepest_orders (o ∷ os) = ap (max (depth_of_tree o.0)) (deepest_orders os)
