-- The nodes of the expressions of a statement are nodes of it, and none of them is a statement.
use Rattle.std.proofs.Common.{ℕ, inr, List, [], ◌∷◌, ◌++◌, flat_map, Option, Some, None}
use Rattle.std.specs.List.{AllByRecursion}
use Rattle.std.specs.Option.{option_map_or}
use Rattle.sql_tree.specs.Tree.{Tree, literal, name, column, new_column, old_column, user_variable, system_variable, unary, binary, is_in, choice, subquery, exists, call, built_in, values_of, name_const, floor_rand}
use Rattle.sql_tree.specs.Tree.{Trees, no_tree, tree, Arms, no_arm, arm, Part, no_part, part, Query, query, Selected, items, all_columns, aggregates}
use Rattle.sql_tree.specs.Tree.{Aggregates, no_aggregate, count_all, aggregate, Origin, no_origin, from_table, Orders, no_order, order_by}
use Rattle.sql_tree.specs.Statement.{Supply, rows, rows_of}
use Rattle.sql_tree.specs.Statement.{Statement, create_table, create_function, create_procedure, create_trigger, drop_table, drop_function, drop_procedure, drop_trigger, truncate, insert_into, replace_into, update_rows, delete_rows, select, evaluate, set_all, call_procedure, begin, commit, rollback, savepoint, rollback_to, release_savepoint, block, if_steps, while_steps, return_value}
use Rattle.sql_tree.specs.declared.expressions.Limit.{Limit}
use Rattle.sql_tree.specs.declared.expressions.Count.{Count}
use Rattle.sql_reach.specs.catalog_rules.Nodes.{Node, Sight, a_statement, a_limit, no_sight, in_sight, sight_in, sight_of_update, limit_nodes, count_nodes, nodes_of, nodes_of_tree, nodes_of_trees, nodes_of_arms, nodes_of_part, nodes_of_query, nodes_of_selected, nodes_of_aggregates, nodes_of_origin, nodes_of_orders, nodes_of_sets, nodes_of_supply}
use Rattle.reach_laws.specs.Members.{In}
use Rattle.reach_laws.proofs.Reaching.{expressions_of}

abbrev pub IsNoStatement : Node → Type 0
IsNoStatement (a_statement s) = ⊥
IsNoStatement node = Unit {0}

abbrev AllPlain : List Node → Type 0
AllPlain ns = AllByRecursion IsNoStatement ns

joined : (xs ys : List Node) → AllPlain xs → AllPlain ys → AllPlain (xs ++ ys)
joined [] ys p q = q
joined (x ∷ xs) ys p q = (p.0, joined xs ys p.1 q)

counted_plain : (limit : Option Count) → AllPlain (count_nodes limit)
counted_plain None = tt
counted_plain (Some c) = (tt, tt)

offset_plain : (o : Option Count) → AllPlain (option_map_or (λ c. a_limit c ∷ []) o [])
offset_plain None = tt
offset_plain (Some c) = (tt, tt)

limit_plain : (limit : Option Limit) → AllPlain (limit_nodes limit)
limit_plain None = tt
limit_plain (Some l) = (tt, offset_plain l.offset)

mutual
  tree_plain : (t : Tree) (sight : Sight) → AllPlain (nodes_of_tree t sight)
  tree_plain (literal v) sight = tt
  tree_plain (name n) sight = (tt, tt)
  tree_plain (column t c) sight = (tt, tt)
  tree_plain (new_column c) sight = (tt, tt)
  tree_plain (old_column c) sight = (tt, tt)
  tree_plain (user_variable n) sight = (tt, tt)
  tree_plain (system_variable n) sight = (tt, tt)
  tree_plain (unary op a) sight = tree_plain a sight
  tree_plain (binary op a b) sight = joined (nodes_of_tree a sight) (nodes_of_tree b sight) (tree_plain a sight) (tree_plain b sight)
  tree_plain (is_in negated a ts) sight = joined (nodes_of_tree a sight) (nodes_of_trees ts sight) (tree_plain a sight) (trees_plain ts sight)
  tree_plain (choice arms o) sight = joined (nodes_of_arms arms sight) (nodes_of_part o sight) (arms_plain arms sight) (part_plain o sight)
  tree_plain (subquery q) sight = query_plain q sight
  tree_plain (exists q) sight = query_plain q sight
  tree_plain (call n ts) sight = (tt, trees_plain ts sight)
  tree_plain (values_of c) sight = (tt, tt)
  tree_plain (name_const n v) sight = tt
  tree_plain (floor_rand a) sight = (tt, tree_plain a sight)
  tree_plain (built_in f ts) sight = (tt, trees_plain ts sight)

  trees_plain : (ts : Trees) (sight : Sight) → AllPlain (nodes_of_trees ts sight)
  trees_plain no_tree sight = tt
  trees_plain (tree t ts) sight = joined (nodes_of_tree t sight) (nodes_of_trees ts sight) (tree_plain t sight) (trees_plain ts sight)

  arms_plain : (arms : Arms) (sight : Sight) → AllPlain (nodes_of_arms arms sight)
  arms_plain no_arm sight = tt
  arms_plain (arm c v arms) sight =
      joined (nodes_of_tree c sight ++ nodes_of_tree v sight) (nodes_of_arms arms sight) (joined (nodes_of_tree c sight) (nodes_of_tree v sight) (tree_plain c sight) (tree_plain v sight)) (arms_plain arms sight)

  part_plain : (o : Part) (sight : Sight) → AllPlain (nodes_of_part o sight)
  part_plain no_part sight = tt
  part_plain (part t) sight = tree_plain t sight

  query_plain : (q : Query) (sight : Sight) → AllPlain (nodes_of_query q sight)
  query_plain (query w o) sight = joined (nodes_of_selected w (sight_in o sight)) (nodes_of_origin o sight) (selected_plain w (sight_in o sight)) (origin_plain o sight)

  selected_plain : (w : Selected) (sight : Sight) → AllPlain (nodes_of_selected w sight)
  selected_plain (items ts) sight = trees_plain ts sight
  selected_plain all_columns sight = tt
  selected_plain (aggregates rest) sight = aggregates_plain rest sight

  aggregates_plain : (rest : Aggregates) (sight : Sight) → AllPlain (nodes_of_aggregates rest sight)
  aggregates_plain no_aggregate sight = tt
  aggregates_plain (count_all rest) sight = aggregates_plain rest sight
  aggregates_plain (aggregate f a rest) sight = joined (nodes_of_tree a sight) (nodes_of_aggregates rest sight) (tree_plain a sight) (aggregates_plain rest sight)

  origin_plain : (o : Origin) (sight : Sight) → AllPlain (nodes_of_origin o sight)
  origin_plain no_origin sight = tt
  origin_plain (from_table t w os l) sight =
      (tt, joined (nodes_of_part w (in_sight t sight) ++ nodes_of_orders os (in_sight t sight)) (limit_nodes l) (joined (nodes_of_part w (in_sight t sight)) (nodes_of_orders os (in_sight t sight)) (part_plain w (in_sight t sight)) (orders_plain os (in_sight t sight))) (limit_plain l))

  orders_plain : (os : Orders) (sight : Sight) → AllPlain (nodes_of_orders os sight)
  orders_plain no_order sight = tt
  orders_plain (order_by t down os) sight = joined (nodes_of_tree t sight) (nodes_of_orders os sight) (tree_plain t sight) (orders_plain os sight)

each_plain : {A : Type 0} (nodes : A → List Node) (xs : List A) → ((x : A) → AllPlain (nodes x)) → AllPlain (flat_map nodes xs)
each_plain nodes [] q = tt
each_plain nodes (x ∷ xs) q = joined (nodes x) (flat_map nodes xs) (q x) (each_plain nodes xs q)

sets_plain : (sets : List (List ℕ × Tree)) (sight : Sight) → AllPlain (nodes_of_sets sets sight)
sets_plain sets sight = each_plain (λ (s : List ℕ × Tree). nodes_of_tree s.1 sight) sets (λ s. tree_plain s.1 sight)

supply_plain : (supply : Supply) → AllPlain (nodes_of_supply supply no_sight)
supply_plain (rows rs) = each_plain (λ ts. nodes_of_trees ts no_sight) rs (λ ts. trees_plain ts no_sight)
supply_plain (rows_of q) = query_plain q no_sight

-- ---- those of a statement

pub expressions_plain : (s : Statement) → AllPlain (expressions_of s)
expressions_plain (insert_into ignore t names supply sets) = joined (nodes_of_supply supply no_sight) (nodes_of_sets sets (sight_of_update t)) (supply_plain supply) (sets_plain sets (sight_of_update t))
expressions_plain (replace_into t names supply) = supply_plain supply
expressions_plain (update_rows t sets condition os limit) =
    joined (nodes_of_sets sets (in_sight t no_sight) ++ nodes_of_part condition (in_sight t no_sight) ++ nodes_of_orders os (in_sight t no_sight)) (count_nodes limit)
    (joined (nodes_of_sets sets (in_sight t no_sight) ++ nodes_of_part condition (in_sight t no_sight)) (nodes_of_orders os (in_sight t no_sight))
    (joined (nodes_of_sets sets (in_sight t no_sight)) (nodes_of_part condition (in_sight t no_sight)) (sets_plain sets (in_sight t no_sight)) (part_plain condition (in_sight t no_sight)))
    (orders_plain os (in_sight t no_sight))) (counted_plain limit)
expressions_plain (delete_rows t condition os limit) =
    joined (nodes_of_part condition (in_sight t no_sight) ++ nodes_of_orders os (in_sight t no_sight)) (count_nodes limit)
    (joined (nodes_of_part condition (in_sight t no_sight)) (nodes_of_orders os (in_sight t no_sight)) (part_plain condition (in_sight t no_sight)) (orders_plain os (in_sight t no_sight))) (counted_plain limit)
expressions_plain (select q) = query_plain q no_sight
expressions_plain (evaluate ts) = trees_plain ts no_sight
expressions_plain (create_table x) = tt
expressions_plain (create_function x) = tt
expressions_plain (create_procedure x) = tt
expressions_plain (create_trigger x) = tt
expressions_plain (drop_table x) = tt
expressions_plain (drop_function x) = tt
expressions_plain (drop_procedure x) = tt
expressions_plain (drop_trigger x) = tt
expressions_plain (truncate x) = tt
expressions_plain (set_all as') = tt
expressions_plain (call_procedure x ts) = tt
expressions_plain begin = tt
expressions_plain commit = tt
expressions_plain rollback = tt
expressions_plain (savepoint x) = tt
expressions_plain (rollback_to x) = tt
expressions_plain (release_savepoint x) = tt
expressions_plain (block ds ss) = tt
expressions_plain (if_steps bs o) = tt
expressions_plain (while_steps c ss) = tt
expressions_plain (return_value x) = tt

pub expressions_in : (s : Statement) (node : Node) → In node (expressions_of s) → In node (nodes_of s)
expressions_in (insert_into ignore t names supply sets) node i = inr i
expressions_in (replace_into t names supply) node i = inr i
expressions_in (update_rows t sets condition os limit) node i = inr i
expressions_in (delete_rows t condition os limit) node i = inr i
expressions_in (select q) node i = inr i
expressions_in (evaluate ts) node i = inr i
expressions_in (create_table x) node i = absurd i
expressions_in (create_function x) node i = absurd i
expressions_in (create_procedure x) node i = absurd i
expressions_in (create_trigger x) node i = absurd i
expressions_in (drop_table x) node i = absurd i
expressions_in (drop_function x) node i = absurd i
expressions_in (drop_procedure x) node i = absurd i
expressions_in (drop_trigger x) node i = absurd i
expressions_in (truncate x) node i = absurd i
expressions_in (set_all as') node i = absurd i
expressions_in (call_procedure x ts) node i = absurd i
expressions_in begin node i = absurd i
expressions_in commit node i = absurd i
expressions_in rollback node i = absurd i
expressions_in (savepoint x) node i = absurd i
expressions_in (rollback_to x) node i = absurd i
expressions_in (release_savepoint x) node i = absurd i
expressions_in (block ds ss) node i = absurd i
expressions_in (if_steps bs o) node i = absurd i
expressions_in (while_steps c ss) node i = absurd i
expressions_in (return_value x) node i = absurd i
