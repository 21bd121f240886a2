-- A map over names that have the depth 1 leaves every depth.
use Rattle.std.proofs.Common.{◌≡◌, ℕ, suc, List, [], ◌∷◌, map, max, refl, ap}
use Rattle.sql_tree.specs.Tree.{Tree, literal, name, column, new_column, old_column, user_variable, system_variable, unary, binary, is_in, choice, subquery, exists, call, built_in, values_of, name_const, floor_rand}
use Rattle.sql_tree.specs.Tree.{Trees, no_tree, tree, Arms, no_arm, arm, Part, no_part, part, Query, query, Selected, items, all_columns, aggregates}
use Rattle.sql_tree.specs.Tree.{Aggregates, no_aggregate, count_all, aggregate, Origin, no_origin, from_table, Orders, no_order, order_by}
use Rattle.sql_tree.specs.Statement.{Statement, create_table, create_function, create_procedure, create_trigger, drop_table, drop_function, drop_procedure, drop_trigger, truncate, insert_into, replace_into, update_rows, delete_rows, select, evaluate, set_all, call_procedure, begin, commit, rollback, savepoint, rollback_to, release_savepoint, block, if_steps, while_steps, return_value}
use Rattle.sql_tree.specs.Statement.{Supply, rows, rows_of}
use Rattle.sql_tree.specs.Depth.{depth_of, depth_of_tree, depth_of_trees, depth_of_arms, depth_of_part, depth_of_query, depth_of_selected, depth_of_aggregates, depth_of_origin, depth_of_orders, depth_of_rows, depth_of_supply, depth_of_sets}
use Rattle.sql_tree.specs.declared.expressions.Count.{Count}
use Rattle.sql_reach.specs.Closing.{tree_mapped, trees_mapped, arms_mapped, part_mapped, query_mapped, selected_mapped, aggregates_mapped, origin_mapped, orders_mapped, set_mapped, supply_mapped, statement_mapped}

module _ (named : List ℕ → Tree) (counted : Count → Count) (one : (n : List ℕ) → depth_of_tree (named n) ≡ 1) where
  mutual
    tree_deep : (t : Tree) → depth_of_tree (tree_mapped named counted t) ≡ depth_of_tree t
    tree_deep (literal v) = refl
    tree_deep (name n) = one n
    tree_deep (column t c) = refl
    tree_deep (new_column c) = refl
    tree_deep (old_column c) = refl
    tree_deep (user_variable n) = refl
    tree_deep (system_variable n) = refl
    tree_deep (unary op a) = ap suc (tree_deep a)
    tree_deep (binary op a b) = rw (tree_deep a, tree_deep b) refl
    tree_deep (is_in negated a ts) = rw (tree_deep a, trees_deep ts) refl
    tree_deep (choice arms o) = rw (arms_deep arms, part_deep o) refl
    tree_deep (subquery q) = query_deep q
    tree_deep (exists q) = ap suc (query_deep q)
    tree_deep (call n ts) = ap suc (trees_deep ts)
    tree_deep (values_of c) = refl
    tree_deep (name_const n v) = refl
    tree_deep (floor_rand a) = ap suc (tree_deep a)
    tree_deep (built_in f ts) = ap suc (trees_deep ts)

    trees_deep : (ts : Trees) → depth_of_trees (trees_mapped named counted ts) ≡ depth_of_trees ts
    trees_deep no_tree = refl
    trees_deep (tree t ts) = rw (tree_deep t, trees_deep ts) refl

    arms_deep : (arms : Arms) → depth_of_arms (arms_mapped named counted arms) ≡ depth_of_arms arms
    arms_deep no_arm = refl
    arms_deep (arm c v arms) = rw (tree_deep c, tree_deep v, arms_deep arms) refl

    part_deep : (o : Part) → depth_of_part (part_mapped named counted o) ≡ depth_of_part o
    part_deep no_part = refl
    part_deep (part t) = tree_deep t

    query_deep : (q : Query) → depth_of_query (query_mapped named counted q) ≡ depth_of_query q
    query_deep (query w o) = rw (selected_deep w, origin_deep o) refl

    selected_deep : (w : Selected) → depth_of_selected (selected_mapped named counted w) ≡ depth_of_selected w
    selected_deep (items ts) = trees_deep ts
    selected_deep all_columns = refl
    selected_deep (aggregates rest) = aggregates_deep rest

    aggregates_deep : (rest : Aggregates) → depth_of_aggregates (aggregates_mapped named counted rest) ≡ depth_of_aggregates rest
    aggregates_deep no_aggregate = refl
    aggregates_deep (count_all rest) = ap (max 1) (aggregates_deep rest)
    aggregates_deep (aggregate f a rest) = rw (tree_deep a, aggregates_deep rest) refl

    origin_deep : (o : Origin) → depth_of_origin (origin_mapped named counted o) ≡ depth_of_origin o
    origin_deep no_origin = refl
    origin_deep (from_table t w os l) = rw (part_deep w, orders_deep os) refl

    orders_deep : (os : Orders) → depth_of_orders (orders_mapped named counted os) ≡ depth_of_orders os
    orders_deep no_order = refl
    orders_deep (order_by t down os) = rw (tree_deep t, orders_deep os) refl

  rows_deep : (rs : List Trees) → depth_of_rows (map (trees_mapped named counted) rs) ≡ depth_of_rows rs
  rows_deep [] = refl
  rows_deep (r ∷ rs) = rw (trees_deep r, rows_deep rs) refl

  supply_deep : (s : Supply) → depth_of_supply (supply_mapped named counted s) ≡ depth_of_supply s
  supply_deep (rows rs) = rows_deep rs
  supply_deep (rows_of q) = query_deep q

  sets_deep : (ss : List (List ℕ × Tree)) → depth_of_sets (map (set_mapped named counted) ss) ≡ depth_of_sets ss
  sets_deep [] = refl
  sets_deep (s ∷ ss) = rw (tree_deep s.1, sets_deep ss) refl

  pub statement_deep : (s : Statement) → depth_of (statement_mapped named counted s) ≡ depth_of s
  statement_deep (insert_into ignore t cs from us) = rw (supply_deep from, sets_deep us) refl
  statement_deep (replace_into t cs from) = ap suc (supply_deep from)
  statement_deep (update_rows t ss w os l) = rw (sets_deep ss, part_deep w, orders_deep os) refl
  statement_deep (delete_rows t w os l) = rw (part_deep w, orders_deep os) refl
  statement_deep (select q) = query_deep q
  statement_deep (evaluate ts) = ap suc (trees_deep ts)
  statement_deep (create_table t) = refl
  statement_deep (create_function p) = refl
  statement_deep (create_procedure p) = refl
  statement_deep (create_trigger t) = refl
  statement_deep (drop_table n) = refl
  statement_deep (drop_function n) = refl
  statement_deep (drop_procedure n) = refl
  statement_deep (drop_trigger n) = refl
  statement_deep (truncate n) = refl
  statement_deep (set_all as') = refl
  statement_deep (call_procedure n ts) = refl
  statement_deep begin = refl
  statement_deep commit = refl
  statement_deep rollback = refl
  statement_deep (savepoint n) = refl
  statement_deep (rollback_to n) = refl
  statement_deep (release_savepoint n) = refl
  statement_deep (block ds ss) = refl
  statement_deep (if_steps bs o) = refl
  statement_deep (while_steps c ss) = refl
  statement_deep (return_value t) = refl
