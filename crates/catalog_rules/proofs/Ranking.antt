-- One walk over the trees finds the error that comes first among all nodes.
use Rattle.std.proofs.Common.{◌≡◌, ℕ, suc, Bool, true, false, not, ◌||◌, cond, min, List, [], ◌∷◌, ◌++◌, Option, Some, None, refl, sym, ap, ◌∙◌, arith}
use Rattle.std.specs.Prelude.{flat_map, length, ◌==◌, slice_get, find}
use Rattle.std.specs.List.{list_any}
use Rattle.std.specs.Option.{option_map_or}
use Rattle.std.proofs.lemmas.List.Folds.{list_any-append}
use Rattle.std.proofs.lemmas.Grind.{flat_map-append}
use Rattle.sql_tree.specs.Tree.{Tree, literal, name, column, new_column, old_column, user_variable, system_variable, unary, binary, is_in, choice, subquery, exists, call, built_in, values_of, name_const, floor_rand}
use Rattle.sql_tree.specs.Tree.{Trees, no_tree, tree, Arms, no_arm, arm, Part, no_part, part, Query, query, Selected, items, all_columns, aggregates}
use Rattle.sql_tree.specs.Tree.{Aggregates, no_aggregate, count_all, aggregate, Origin, no_origin, from_table, Orders, no_order, order_by}
use Rattle.sql_tree.specs.Statement.{Program}
use Rattle.sql_tree.specs.declared.expressions.Limit.{Limit}
use Rattle.sql_tree.specs.declared.expressions.Count.{Count}
use Rattle.sql_tree.specs.declared.expressions.Count.TheVariants as counts
use Rattle.catalog_rules.specs.Names.{is_among}
use Rattle.catalog_rules.specs.Objects.{function_in, procedure_in, parameters_of}
use Rattle.catalog_rules.specs.Bodies.{readable_variables, has_code}
use Rattle.catalog_rules.specs.Nodes.{Sight, in_sight, sight_in, Node, a_name, a_column, a_new_column, an_old_column, an_inserted_value, a_system_variable, a_function_call, a_table_read, a_limit, count_of_trees, limit_nodes, count_nodes}
use Rattle.catalog_rules.specs.Nodes.{nodes_of_tree, nodes_of_trees, nodes_of_arms, nodes_of_part, nodes_of_query, nodes_of_selected, nodes_of_aggregates, nodes_of_origin, nodes_of_orders, table_read_at}
use Rattle.catalog_rules.specs.Checks.{unless, node_codes, call_codes, procedure_codes, limit_codes, check_order, tables_read, is_known_name, is_known_column, is_known_inserted, row_has_column}
use Rattle.catalog_rules.specs.Ranks.{place_met, rank_of, rank_unless, Asked, is_target, has_table, read_rank, function_rank, procedure_rank, count_rank, count_if_rank, limit_rank, tree_rank, trees_rank, arms_rank, part_rank, query_rank, selected_rank, aggregates_rank, origin_rank, orders_rank}

-- ---- ranks of lists of errors

met_step : (a b : Bool) (m n k : ℕ) → k ≡ min m n → cond (a || b) 0 (suc k) ≡ min (cond a 0 (suc m)) (cond b 0 (suc n))
met_step true true m n k e = omega arith
met_step true false m n k e = omega arith
met_step false true m n k e = omega arith
met_step false false m n k e = omega arith

pub place_append : (xs ys codes : List ℕ) → place_met (xs ++ ys) codes ≡ min (place_met xs codes) (place_met ys codes)
place_append xs ys [] = omega arith
place_append xs ys (c ∷ cs) =
    ap (λ (b : Bool). cond b 0 (suc (place_met (xs ++ ys) cs))) (list_any-append (λ one. one == c) xs ys)
    ∙ met_step (has_code xs c) (has_code ys c) (place_met xs cs) (place_met ys cs) (place_met (xs ++ ys) cs) (place_append xs ys cs)

pub rank_append : (xs ys : List ℕ) → rank_of (xs ++ ys) ≡ min (rank_of xs) (rank_of ys)
rank_append xs ys = place_append xs ys check_order

place_most : (met codes : List ℕ) → min (place_met met codes) (length codes) ≡ place_met met codes
place_most met [] = omega arith
place_most met (c ∷ cs) = most_step (has_code met c) (place_met met cs) (length cs) (place_most met cs)
  where
    most_step : (b : Bool) (k n : ℕ) → min k n ≡ k → min (cond b 0 (suc k)) (suc n) ≡ cond b 0 (suc k)
    most_step true k n e = omega arith
    most_step false k n e = omega arith

-- no rank is past that of no error
pub rank_most : (met : List ℕ) → min (rank_of met) 10 ≡ rank_of met
rank_most met = place_most met check_order

pub rank_1146 : (b : Bool) → rank_of (unless b 1146) ≡ rank_unless b 0
rank_1146 true = refl
rank_1146 false = refl

pub rank_1054 : (b : Bool) → rank_of (unless b 1054) ≡ rank_unless b 1
rank_1054 true = refl
rank_1054 false = refl

rank_1318 : (b : Bool) → rank_of (unless b 1318) ≡ rank_unless b 3
rank_1318 true = refl
rank_1318 false = refl

pub rank_1193 : (b : Bool) → rank_of (unless b 1193) ≡ rank_unless b 4
rank_1193 true = refl
rank_1193 false = refl

rank_1327 : (b : Bool) → rank_of (unless b 1327) ≡ rank_unless b 5
rank_1327 true = refl
rank_1327 false = refl

pub rank_1110 : (b : Bool) → rank_of (unless b 1110) ≡ rank_unless b 6
rank_1110 true = refl
rank_1110 false = refl

pub rank_1136 : (b : Bool) → rank_of (unless b 1136) ≡ rank_unless b 7
rank_1136 true = refl
rank_1136 false = refl

pub rank_1093 : (b : Bool) → rank_of (unless b 1093) ≡ rank_unless b 8
rank_1093 true = refl
rank_1093 false = refl

pub rank_1364 : (b : Bool) → rank_of (unless b 1364) ≡ rank_unless b 9
rank_1364 true = refl
rank_1364 false = refl

-- ---- the first error

first_step : (b : Bool) (c k : ℕ) (cs : List ℕ) (o : Option ℕ) → o ≡ slice_get cs k → cond b (Some c) o ≡ slice_get (c ∷ cs) (cond b 0 (suc k))
first_step true c k cs o e = refl
first_step false c k cs o e = e

-- the first code of an order that was met stands at its place
pub first_met : (met codes : List ℕ) → find (has_code met) codes ≡ slice_get codes (place_met met codes)
first_met met [] = refl
first_met met (c ∷ cs) = first_step (has_code met c) c (place_met met cs) cs (find (has_code met) cs) (first_met met cs)

-- ---- ranks of nodes

-- what refuses a node, 1093 for the table that may not be read too
abbrev pub asked_codes : Asked → Node → List ℕ
asked_codes asked (a_table_read t) = unless (has_table asked.catalog t) 1146 ++ unless (not (is_target asked.target t)) 1093
asked_codes asked node = node_codes asked.catalog asked.scope node

abbrev pub ranks : Asked → List Node → ℕ
ranks asked nodes = rank_of (flat_map (asked_codes asked) nodes)

abbrev pub codes_rank : Asked → List Node → ℕ
codes_rank asked nodes = rank_of (flat_map (node_codes asked.catalog asked.scope) nodes)

module _ (asked : Asked) where
  pub ranks_append : (ns ms : List Node) → ranks asked (ns ++ ms) ≡ min (ranks asked ns) (ranks asked ms)
  ranks_append ns ms = ap rank_of (flat_map-append (asked_codes asked) ns ms) ∙ rank_append (flat_map (asked_codes asked) ns) (flat_map (asked_codes asked) ms)

  pub two : (ns ms : List Node) (a b : ℕ) → a ≡ ranks asked ns → b ≡ ranks asked ms → min a b ≡ ranks asked (ns ++ ms)
  two ns ms a b e f = (λ i. min (e i) (f i)) ∙ sym (ranks_append ns ms)

  pub first : (n : Node) (ns : List Node) (a b : ℕ) → a ≡ rank_of (asked_codes asked n) → b ≡ ranks asked ns → min a b ≡ ranks asked (n ∷ ns)
  first n ns a b e f = (λ i. min (e i) (f i)) ∙ sym (rank_append (asked_codes asked n) (flat_map (asked_codes asked) ns))

  pub one : (n : Node) (a : ℕ) → a ≡ rank_of (asked_codes asked n) → a ≡ ranks asked (n ∷ [])
  one n a e = e ∙ sym (rank_most (asked_codes asked n)) ∙ first n [] (rank_of (asked_codes asked n)) 10 refl refl

  three : (ns ms ks : List Node) (a b c : ℕ) → a ≡ ranks asked ns → b ≡ ranks asked ms → c ≡ ranks asked ks → min (min a b) c ≡ ranks asked (ns ++ ms ++ ks)
  three ns ms ks a b c e f g = two (ns ++ ms) ks (min a b) c (two ns ms a b e f) g

  call_step : (o : Option Program) (count : ℕ) → elim o as (λ _. ℕ) [ None ↦ 2 | Some p ↦ rank_unless (length (parameters_of p) == count) 3 ]
      ≡ rank_of (elim o as (λ _. List ℕ) [ None ↦ 1305 ∷ [] | Some p ↦ unless (length (parameters_of p) == count) 1318 ])
  call_step None count = refl
  call_step (Some p) count = sym (rank_1318 (length (parameters_of p) == count))

  pub function_law : (n : List ℕ) (count : ℕ) → function_rank asked n count ≡ rank_of (call_codes asked.catalog n count)
  function_law n count = call_step (function_in asked.catalog n) count

  pub procedure_law : (n : List ℕ) (count : ℕ) → procedure_rank asked n count ≡ rank_of (procedure_codes asked.catalog n count)
  procedure_law n count = call_step (procedure_in asked.catalog n) count

  count_is : (c : Count) → count_rank asked c ≡ rank_of (limit_codes asked.scope c)
  count_is (counts.Number n) = refl
  count_is (counts.Name n) = sym (rank_1327 (is_among asked.scope.locals n))

  count_law : (c : Count) → count_rank asked c ≡ ranks asked (a_limit c ∷ [])
  count_law c = one (a_limit c) (count_rank asked c) (count_is c)

  pub count_if_law : (c : Option Count) → count_if_rank asked c ≡ ranks asked (count_nodes c)
  count_if_law None = refl
  count_if_law (Some c) = count_law c

  offset_law : (c : Option Count) → count_if_rank asked c ≡ ranks asked (option_map_or (λ c. a_limit c ∷ []) c [])
  offset_law None = refl
  offset_law (Some c) = count_law c

  limit_law : (l : Option Limit) → limit_rank asked l ≡ ranks asked (limit_nodes l)
  limit_law None = refl
  limit_law (Some l) =
      first (a_limit l.count) (option_map_or (λ c. a_limit c ∷ []) l.offset []) (count_rank asked l.count) (count_if_rank asked l.offset) (count_is l.count) (offset_law l.offset)

  read_is : (t : List ℕ) → read_rank asked t ≡ rank_of (asked_codes asked (a_table_read t))
  read_is t =
      (λ i. min (sym (rank_1146 (has_table asked.catalog t)) i) (sym (rank_1093 (not (is_target asked.target t))) i))
      ∙ sym (rank_append (unless (has_table asked.catalog t) 1146) (unless (not (is_target asked.target t)) 1093))

  mutual
    pub tree_law : (t : Tree) (sight : Sight) → tree_rank asked t sight ≡ ranks asked (nodes_of_tree t sight)
    tree_law (literal v) sight = refl
    tree_law (name n) sight = one (a_name sight n) _ (sym (rank_1054 (is_known_name asked.catalog asked.scope sight n)))
    tree_law (column t c) sight = one (a_column sight t c) _ (sym (rank_1054 (is_known_column asked.catalog sight t c)))
    tree_law (new_column c) sight = one (a_new_column c) _ (sym (rank_1054 (row_has_column c asked.scope.new_row)))
    tree_law (old_column c) sight = one (an_old_column c) _ (sym (rank_1054 (row_has_column c asked.scope.old_row)))
    tree_law (user_variable n) sight = refl
    tree_law (system_variable n) sight = one (a_system_variable n) _ (sym (rank_1193 (is_among readable_variables n)))
    tree_law (unary op a) sight = tree_law a sight
    tree_law (binary op a b) sight = two (nodes_of_tree a sight) (nodes_of_tree b sight) _ _ (tree_law a sight) (tree_law b sight)
    tree_law (is_in negated a ts) sight = two (nodes_of_tree a sight) (nodes_of_trees ts sight) _ _ (tree_law a sight) (trees_law ts sight)
    tree_law (choice arms o) sight = two (nodes_of_arms arms sight) (nodes_of_part o sight) _ _ (arms_law arms sight) (part_law o sight)
    tree_law (subquery q) sight = query_law q sight
    tree_law (exists q) sight = query_law q sight
    tree_law (call n ts) sight = first (a_function_call n (count_of_trees ts)) (nodes_of_trees ts sight) _ _ (function_law n (count_of_trees ts)) (trees_law ts sight)
    tree_law (values_of c) sight = one (an_inserted_value sight c) _ (sym (rank_1054 (is_known_inserted asked.catalog sight c)))
    tree_law (name_const n v) sight = refl
    tree_law (floor_rand a) sight = tree_law a sight
    tree_law (built_in f ts) sight = trees_law ts sight

    pub trees_law : (ts : Trees) (sight : Sight) → trees_rank asked ts sight ≡ ranks asked (nodes_of_trees ts sight)
    trees_law no_tree sight = refl
    trees_law (tree t ts) sight = two (nodes_of_tree t sight) (nodes_of_trees ts sight) _ _ (tree_law t sight) (trees_law ts sight)

    arms_law : (arms : Arms) (sight : Sight) → arms_rank asked arms sight ≡ ranks asked (nodes_of_arms arms sight)
    arms_law no_arm sight = refl
    arms_law (arm c v arms) sight =
        three (nodes_of_tree c sight) (nodes_of_tree v sight) (nodes_of_arms arms sight) _ _ _ (tree_law c sight) (tree_law v sight) (arms_law arms sight)

    pub part_law : (p : Part) (sight : Sight) → part_rank asked p sight ≡ ranks asked (nodes_of_part p sight)
    part_law no_part sight = refl
    part_law (part t) sight = tree_law t sight

    pub query_law : (q : Query) (sight : Sight) → query_rank asked q sight ≡ ranks asked (nodes_of_query q sight)
    query_law (query w o) sight = two (nodes_of_selected w (sight_in o sight)) (nodes_of_origin o sight) _ _ (selected_law w (sight_in o sight)) (origin_law o sight)

    selected_law : (w : Selected) (sight : Sight) → selected_rank asked w sight ≡ ranks asked (nodes_of_selected w sight)
    selected_law (items ts) sight = trees_law ts sight
    selected_law all_columns sight = refl
    selected_law (aggregates rest) sight = aggregates_law rest sight

    aggregates_law : (as' : Aggregates) (sight : Sight) → aggregates_rank asked as' sight ≡ ranks asked (nodes_of_aggregates as' sight)
    aggregates_law no_aggregate sight = refl
    aggregates_law (count_all rest) sight = aggregates_law rest sight
    aggregates_law (aggregate f a rest) sight = two (nodes_of_tree a sight) (nodes_of_aggregates rest sight) _ _ (tree_law a sight) (aggregates_law rest sight)

    origin_law : (o : Origin) (sight : Sight) → origin_rank asked o sight ≡ ranks asked (nodes_of_origin o sight)
    origin_law no_origin sight = refl
    origin_law (from_table t w os l) sight =
        first (a_table_read t) (nodes_of_part w (in_sight t sight) ++ nodes_of_orders os (in_sight t sight) ++ limit_nodes l) _ _ (read_is t)
        (three (nodes_of_part w (in_sight t sight)) (nodes_of_orders os (in_sight t sight)) (limit_nodes l) _ _ _
        (part_law w (in_sight t sight)) (orders_law os (in_sight t sight)) (limit_law l))

    pub orders_law : (os : Orders) (sight : Sight) → orders_rank asked os sight ≡ ranks asked (nodes_of_orders os sight)
    orders_law no_order sight = refl
    orders_law (order_by t descending os) sight = two (nodes_of_tree t sight) (nodes_of_orders os sight) _ _ (tree_law t sight) (orders_law os sight)

  -- ---- apart from the table that may not be read

  reads_step : (a b : Bool) (r c k : ℕ) → k ≡ min c (rank_unless (not b) 8) → min (min r (rank_unless (not a) 8)) k ≡ min (min r c) (rank_unless (not (a || b)) 8)
  reads_step true true r c k e = omega arith
  reads_step true false r c k e = omega arith
  reads_step false true r c k e = omega arith
  reads_step false false r c k e = omega arith

  other : (n : Node) (ns : List Node) → asked_codes asked n ≡ node_codes asked.catalog asked.scope n → table_read_at n ≡ None
      → ranks asked ns ≡ min (codes_rank asked ns) (rank_unless (not (list_any (is_target asked.target) (tables_read ns))) 8)
      → ranks asked (n ∷ ns) ≡ min (codes_rank asked (n ∷ ns)) (rank_unless (not (list_any (is_target asked.target) (tables_read (n ∷ ns)))) 8)
  other n ns same none later =
      let left : ranks asked (n ∷ ns) ≡ min (rank_of (node_codes asked.catalog asked.scope n)) (ranks asked ns) =
      rank_append (asked_codes asked n) (flat_map (asked_codes asked) ns) ∙ ap (λ (codes : List ℕ). min (rank_of codes) (ranks asked ns)) same in
      let right : codes_rank asked (n ∷ ns) ≡ min (rank_of (node_codes asked.catalog asked.scope n)) (codes_rank asked ns) =
      rank_append (node_codes asked.catalog asked.scope n) (flat_map (node_codes asked.catalog asked.scope) ns) in
      rw none (omega arith)

  -- the ranks of nodes are those of their errors, and 1093 where the table is read
  pub split : (nodes : List Node) → ranks asked nodes ≡ min (codes_rank asked nodes) (rank_unless (not (list_any (is_target asked.target) (tables_read nodes))) 8)
  split [] = refl
  split (a_table_read t ∷ ns) =
      let left : ranks asked (a_table_read t ∷ ns) ≡ min (rank_of (asked_codes asked (a_table_read t))) (ranks asked ns) =
      rank_append (asked_codes asked (a_table_read t)) (flat_map (asked_codes asked) ns) in
      let right : codes_rank asked (a_table_read t ∷ ns) ≡ min (rank_of (unless (has_table asked.catalog t) 1146)) (codes_rank asked ns) =
      rank_append (unless (has_table asked.catalog t) 1146) (flat_map (node_codes asked.catalog asked.scope) ns) in
      let here : rank_of (asked_codes asked (a_table_read t)) ≡ min (rank_of (unless (has_table asked.catalog t) 1146)) (rank_unless (not (is_target asked.target t)) 8) =
      rank_append (unless (has_table asked.catalog t) 1146) (unless (not (is_target asked.target t)) 1093)
      ∙ ap (λ (k : ℕ). min (rank_of (unless (has_table asked.catalog t) 1146)) k) (rank_1093 (not (is_target asked.target t))) in
      left ∙ ap (λ (k : ℕ). min k (ranks asked ns)) here
      ∙ reads_step (is_target asked.target t) (list_any (is_target asked.target) (tables_read ns)) (rank_of (unless (has_table asked.catalog t) 1146)) (codes_rank asked ns) (ranks asked ns) (split ns)
      ∙ ap (λ (k : ℕ). min k (rank_unless (not (is_target asked.target t || list_any (is_target asked.target) (tables_read ns))) 8)) (sym right)
  split (n ∷ ns) = other n ns refl refl (split ns)
