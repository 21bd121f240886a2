-- A map that keeps names and counts well keeps statements well.
use Rattle.std.proofs.Common.{◌≡◌, ℕ, zero, suc, Bool, true, false, ◌&&◌, List, [], ◌∷◌, map, Option, Some, None, refl, ◌∙◌}
use Rattle.std.specs.List.{list_all}
use Rattle.std.specs.Option.{option_map, is_none}
use Rattle.sql_tree.specs.Tree.{Tree, literal, name, column, new_column, old_column, user_variable, system_variable, unary, binary, is_in, choice, subquery, exists, call, built_in, values_of, name_const, floor_rand}
use Rattle.sql_tree.specs.Tree.{Trees, no_tree, tree, Arms, no_arm, arm, Part, no_part, part, Query, query, Selected, items, all_columns, aggregates}
use Rattle.sql_tree.specs.Tree.{Aggregates, no_aggregate, count_all, aggregate, Origin, no_origin, from_table, Orders, no_order, order_by}
use Rattle.sql_tree.specs.BuiltIns.{Arity, exactly, one_or_more, arity}
use Rattle.sql_tree.specs.Statement.{Statement, create_table, create_function, create_procedure, create_trigger, drop_table, drop_function, drop_procedure, drop_trigger, truncate, insert_into, replace_into, update_rows, delete_rows, select, evaluate, set_all, call_procedure, begin, commit, rollback, savepoint, rollback_to, release_savepoint, block, if_steps, while_steps, return_value}
use Rattle.sql_tree.specs.Statement.{Supply, rows, rows_of}
use Rattle.sql_tree.specs.Well.{is_name, are_names_if, is_count, is_count_if, is_limit_if, has_tree, are_so_many, are_as_many, has_arm, is_one_tree, has_aggregate, is_one_aggregate, gives_one, has_order, has_origin, is_unordered, goes_with_origin, has_item}
use Rattle.sql_tree.specs.Well.{is_well_tree, are_well_trees, are_well_arms, is_well_part, is_well_query, is_well_selected, are_well_aggregates, is_well_origin, are_well_orders, is_well_row, is_well_supply, is_well_set, is_well_step}
use Rattle.sql_tree.specs.declared.expressions.Count.{Count}
use Rattle.sql_tree.specs.declared.expressions.Limit.{Limit}
use Rattle.sql_reach.specs.Closing.{limit_mapped, tree_mapped, trees_mapped, arms_mapped, part_mapped, query_mapped, selected_mapped, aggregates_mapped, origin_mapped, orders_mapped, set_mapped, supply_mapped, statement_mapped}

-- ---- truth values

-- both tests stay passed
pub both : (a b : Bool) {a' b' : Bool} → (a ≡ true → a' ≡ true) → (b ≡ true → b' ≡ true) → (a && b) ≡ true → (a' && b') ≡ true
both true b f g e = rw (f refl) (g e)
both false b f g e = cc

-- a test that gives the same stays passed
same : {a b : Bool} → b ≡ a → a ≡ true → b ≡ true
same p e = p ∙ e

-- a test of what is left as it is stays passed
stays : {a : Bool} → a ≡ true → a ≡ true
stays e = e

-- ---- how many there are, and where from

module _ (named : List ℕ → Tree) (counted : Count → Count) where
  trees_there : (ts : Trees) → has_tree (trees_mapped named counted ts) ≡ has_tree ts
  trees_there no_tree = refl
  trees_there (tree t ts) = refl

  so_many : (n : ℕ) (ts : Trees) → are_so_many n (trees_mapped named counted ts) ≡ are_so_many n ts
  so_many zero no_tree = refl
  so_many zero (tree t ts) = refl
  so_many (suc n) no_tree = refl
  so_many (suc n) (tree t ts) = so_many n ts

  as_many : (a : Arity) (ts : Trees) → are_as_many a (trees_mapped named counted ts) ≡ are_as_many a ts
  as_many (exactly n) ts = so_many n ts
  as_many one_or_more ts = trees_there ts

  arms_there : (arms : Arms) → has_arm (arms_mapped named counted arms) ≡ has_arm arms
  arms_there no_arm = refl
  arms_there (arm c v arms) = refl

  one_there : (ts : Trees) → is_one_tree (trees_mapped named counted ts) ≡ is_one_tree ts
  one_there no_tree = refl
  one_there (tree t no_tree) = refl
  one_there (tree t (tree u ts)) = refl

  aggregates_there : (rest : Aggregates) → has_aggregate (aggregates_mapped named counted rest) ≡ has_aggregate rest
  aggregates_there no_aggregate = refl
  aggregates_there (count_all rest) = refl
  aggregates_there (aggregate f a rest) = refl

  one_aggregate_there : (rest : Aggregates) → is_one_aggregate (aggregates_mapped named counted rest) ≡ is_one_aggregate rest
  one_aggregate_there no_aggregate = refl
  one_aggregate_there (count_all rest) = rw (aggregates_there rest) refl
  one_aggregate_there (aggregate f a rest) = rw (aggregates_there rest) refl

  one_given : (q : Query) → gives_one (query_mapped named counted q) ≡ gives_one q
  one_given (query (items ts) o) = one_there ts
  one_given (query all_columns o) = refl
  one_given (query (aggregates rest) o) = one_aggregate_there rest

  orders_there : (os : Orders) → has_order (orders_mapped named counted os) ≡ has_order os
  orders_there no_order = refl
  orders_there (order_by t down os) = refl

  origin_there : (o : Origin) → has_origin (origin_mapped named counted o) ≡ has_origin o
  origin_there no_origin = refl
  origin_there (from_table t w os l) = refl

  limit_there : (l : Option Limit) → is_none (option_map (limit_mapped named counted) l) ≡ is_none l
  limit_there None = refl
  limit_there (Some l) = refl

  unordered : (o : Origin) → is_unordered (origin_mapped named counted o) ≡ is_unordered o
  unordered no_origin = refl
  unordered (from_table t w os l) = rw (orders_there os, limit_there l) refl

  goes_with : (q : Query) → goes_with_origin (query_mapped named counted q) ≡ goes_with_origin q
  goes_with (query (items ts) o) = refl
  goes_with (query all_columns o) = origin_there o
  goes_with (query (aggregates rest) o) = unordered o

  items_there : {A B : Type 0} (f : A → B) (xs : List A) → has_item (map f xs) ≡ has_item xs
  items_there f [] = refl
  items_there f (x ∷ xs) = refl

-- ---- what is well stays so

module _ (named : List ℕ → Tree) (counted : Count → Count)
    (names_well : (n : List ℕ) → is_name n ≡ true → is_well_tree (named n) ≡ true)
    (counts_well : (c : Count) → is_count c ≡ true → is_count (counted c) ≡ true) where
  count_well : (c : Option Count) → is_count_if c ≡ true → is_count_if (option_map counted c) ≡ true
  count_well None e = refl
  count_well (Some c) e = counts_well c e

  limit_well : (l : Option Limit) → is_limit_if l ≡ true → is_limit_if (option_map (limit_mapped named counted) l) ≡ true
  limit_well None e = refl
  limit_well (Some l) e = both (is_count l.count) (is_count_if l.offset) (counts_well l.count) (count_well l.offset) e

  mutual
    tree_well : (t : Tree) → is_well_tree t ≡ true → is_well_tree (tree_mapped named counted t) ≡ true
    tree_well (literal v) e = e
    tree_well (name n) e = names_well n e
    tree_well (column t c) e = e
    tree_well (new_column c) e = e
    tree_well (old_column c) e = e
    tree_well (user_variable n) e = e
    tree_well (system_variable n) e = e
    tree_well (unary op a) e = tree_well a e
    tree_well (binary op a b) e = both (is_well_tree a) (is_well_tree b) (tree_well a) (tree_well b) e
    tree_well (is_in negated a ts) e =
        both (is_well_tree a && has_tree ts) (are_well_trees ts)
        (both (is_well_tree a) (has_tree ts) (tree_well a) (same (trees_there named counted ts)))
        (trees_well ts) e
    tree_well (choice arms o) e =
        both (has_arm arms && are_well_arms arms) (is_well_part o)
        (both (has_arm arms) (are_well_arms arms) (same (arms_there named counted arms)) (arms_well arms))
        (part_well o) e
    tree_well (subquery q) e = both (gives_one q) (is_well_query q) (same (one_given named counted q)) (query_well q) e
    tree_well (exists q) e = query_well q e
    tree_well (call n ts) e = both (is_name n) (are_well_trees ts) stays (trees_well ts) e
    tree_well (values_of c) e = e
    tree_well (name_const n v) e = e
    tree_well (floor_rand a) e = tree_well a e
    tree_well (built_in f ts) e = both (are_as_many (arity f) ts) (are_well_trees ts) (same (as_many named counted (arity f) ts)) (trees_well ts) e

    trees_well : (ts : Trees) → are_well_trees ts ≡ true → are_well_trees (trees_mapped named counted ts) ≡ true
    trees_well no_tree e = refl
    trees_well (tree t ts) e = both (is_well_tree t) (are_well_trees ts) (tree_well t) (trees_well ts) e

    arms_well : (arms : Arms) → are_well_arms arms ≡ true → are_well_arms (arms_mapped named counted arms) ≡ true
    arms_well no_arm e = refl
    arms_well (arm c v arms) e =
        both (is_well_tree c && is_well_tree v) (are_well_arms arms)
        (both (is_well_tree c) (is_well_tree v) (tree_well c) (tree_well v))
        (arms_well arms) e

    part_well : (o : Part) → is_well_part o ≡ true → is_well_part (part_mapped named counted o) ≡ true
    part_well no_part e = refl
    part_well (part t) e = tree_well t e

    query_well : (q : Query) → is_well_query q ≡ true → is_well_query (query_mapped named counted q) ≡ true
    query_well (query w o) e =
        both (goes_with_origin (query w o) && is_well_selected w) (is_well_origin o)
        (both (goes_with_origin (query w o)) (is_well_selected w) (same (goes_with named counted (query w o))) (selected_well w))
        (origin_well o) e

    selected_well : (w : Selected) → is_well_selected w ≡ true → is_well_selected (selected_mapped named counted w) ≡ true
    selected_well (items ts) e = both (has_tree ts) (are_well_trees ts) (same (trees_there named counted ts)) (trees_well ts) e
    selected_well all_columns e = refl
    selected_well (aggregates rest) e =
        both (has_aggregate rest) (are_well_aggregates rest) (same (aggregates_there named counted rest)) (aggregates_well rest) e

    aggregates_well : (rest : Aggregates) → are_well_aggregates rest ≡ true → are_well_aggregates (aggregates_mapped named counted rest) ≡ true
    aggregates_well no_aggregate e = refl
    aggregates_well (count_all rest) e = aggregates_well rest e
    aggregates_well (aggregate f a rest) e = both (is_well_tree a) (are_well_aggregates rest) (tree_well a) (aggregates_well rest) e

    origin_well : (o : Origin) → is_well_origin o ≡ true → is_well_origin (origin_mapped named counted o) ≡ true
    origin_well no_origin e = refl
    origin_well (from_table t w os l) e =
        both (is_name t && is_well_part w && are_well_orders os) (is_limit_if l)
        (both (is_name t && is_well_part w) (are_well_orders os)
        (both (is_name t) (is_well_part w) stays (part_well w))
        (orders_well os))
        (limit_well l) e

    orders_well : (os : Orders) → are_well_orders os ≡ true → are_well_orders (orders_mapped named counted os) ≡ true
    orders_well no_order e = refl
    orders_well (order_by t down os) e = both (is_well_tree t) (are_well_orders os) (tree_well t) (orders_well os) e

  row_well : (r : Trees) → is_well_row r ≡ true → is_well_row (trees_mapped named counted r) ≡ true
  row_well r e = both (has_tree r) (are_well_trees r) (same (trees_there named counted r)) (trees_well r) e

  rows_well : (rs : List Trees) → list_all is_well_row rs ≡ true → list_all is_well_row (map (trees_mapped named counted) rs) ≡ true
  rows_well [] e = refl
  rows_well (r ∷ rs) e = both (is_well_row r) (list_all is_well_row rs) (row_well r) (rows_well rs) e

  supply_well : (s : Supply) → is_well_supply s ≡ true → is_well_supply (supply_mapped named counted s) ≡ true
  supply_well (rows rs) e =
      both (has_item rs) (list_all is_well_row rs) (same (items_there named counted (trees_mapped named counted) rs)) (rows_well rs) e
  supply_well (rows_of q) e = query_well q e

  sets_well : (ss : List (List ℕ × Tree)) → list_all is_well_set ss ≡ true → list_all is_well_set (map (set_mapped named counted) ss) ≡ true
  sets_well [] e = refl
  sets_well (s ∷ ss) e =
      both (is_well_set s) (list_all is_well_set ss)
      (both (is_name s.0) (is_well_tree s.1) stays (tree_well s.1))
      (sets_well ss) e

  pub step_well : (s : Statement) → is_well_step s ≡ true → is_well_step (statement_mapped named counted s) ≡ true
  step_well (insert_into ignore t cs from us) e =
      both (is_name t && are_names_if cs && is_well_supply from) (list_all is_well_set us)
      (both (is_name t && are_names_if cs) (is_well_supply from) stays (supply_well from))
      (sets_well us) e
  step_well (replace_into t cs from) e = both (is_name t && are_names_if cs) (is_well_supply from) stays (supply_well from) e
  step_well (update_rows t ss w os l) e =
      both (is_name t && has_item ss && list_all is_well_set ss && is_well_part w && are_well_orders os) (is_count_if l)
      (both (is_name t && has_item ss && list_all is_well_set ss && is_well_part w) (are_well_orders os)
      (both (is_name t && has_item ss && list_all is_well_set ss) (is_well_part w)
      (both (is_name t && has_item ss) (list_all is_well_set ss)
      (both (is_name t) (has_item ss) stays (same (items_there named counted (set_mapped named counted) ss)))
      (sets_well ss))
      (part_well w))
      (orders_well os))
      (count_well l) e
  step_well (delete_rows t w os l) e =
      both (is_name t && is_well_part w && are_well_orders os) (is_count_if l)
      (both (is_name t && is_well_part w) (are_well_orders os)
      (both (is_name t) (is_well_part w) stays (part_well w))
      (orders_well os))
      (count_well l) e
  step_well (select q) e = query_well q e
  step_well (evaluate ts) e = both (has_tree ts) (are_well_trees ts) (same (trees_there named counted ts)) (trees_well ts) e
  step_well (create_table t) e = e
  step_well (create_function p) e = e
  step_well (create_procedure p) e = e
  step_well (create_trigger t) e = e
  step_well (drop_table n) e = e
  step_well (drop_function n) e = e
  step_well (drop_procedure n) e = e
  step_well (drop_trigger n) e = e
  step_well (truncate n) e = e
  step_well (set_all as') e = e
  step_well (call_procedure n ts) e = e
  step_well begin e = e
  step_well commit e = e
  step_well rollback e = e
  step_well (savepoint n) e = e
  step_well (rollback_to n) e = e
  step_well (release_savepoint n) e = e
  step_well (block ds ss) e = e
  step_well (if_steps bs o) e = e
  step_well (while_steps c ss) e = e
  step_well (return_value t) e = e
