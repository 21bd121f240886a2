-- What is asked of the nodes of a statement after a map over names and LIMITs has the answers of what is asked before it, where that is so of
-- each name, LIMIT and other node.
use Rattle.std.proofs.Common.{◌≡◌, ℕ, suc, List, [], ◌∷◌, ◌++◌, map, Bool, true, false, Option, Some, None, refl, sym, ap, ◌∙◌}
use Rattle.std.specs.Prelude.{flat_map}
use Rattle.std.specs.Option.{option_map, option_map_or}
use Rattle.std.proofs.lemmas.List.Concat.{flat_map-append}
use Rattle.sql_tree.specs.Tree.{Tree, literal, name, column, new_column, old_column, user_variable, system_variable, unary, binary, is_in, choice, subquery, exists, call, built_in, values_of, name_const, floor_rand}
use Rattle.sql_tree.specs.Tree.{Trees, no_tree, tree, Arms, no_arm, arm, Part, no_part, part, Query, query, Selected, items, all_columns, aggregates}
use Rattle.sql_tree.specs.Tree.{Aggregates, no_aggregate, count_all, aggregate, Origin, no_origin, from_table, Orders, no_order, order_by}
use Rattle.sql_tree.specs.Statement.{Statement, create_table, create_function, create_procedure, create_trigger, drop_table, drop_function, drop_procedure, drop_trigger, truncate, insert_into, replace_into, update_rows, delete_rows, select, evaluate, set_all, call_procedure, begin, commit, rollback, savepoint, rollback_to, release_savepoint, block, if_steps, while_steps, return_value}
use Rattle.sql_tree.specs.Statement.{Supply, rows, rows_of}
use Rattle.sql_tree.specs.declared.expressions.Count.{Count}
use Rattle.sql_tree.specs.declared.expressions.Limit.{Limit}
use Rattle.sql_reach.specs.catalog_rules.Nodes.{Sight, no_sight, in_sight, sight_of_update, Node, a_name, a_column, a_new_column, an_old_column, an_inserted_value, a_user_variable, a_system_variable, a_built_in, a_random_number, a_function_call, a_table_read, a_limit, a_statement, count_of_trees, limit_nodes, count_nodes}
use Rattle.sql_reach.specs.catalog_rules.Nodes.{nodes_of_tree, nodes_of_trees, nodes_of_arms, nodes_of_part, nodes_of_query, nodes_of_selected, nodes_of_aggregates, nodes_of_origin, nodes_of_orders, nodes_of_sets, nodes_of_rows, nodes_of_supply, nodes_of}
use Rattle.name_const_laws.specs.Laws.{is_closable}
use Rattle.sql_reach.specs.Closing.{limit_mapped, tree_mapped, trees_mapped, arms_mapped, part_mapped, query_mapped, selected_mapped, aggregates_mapped, origin_mapped, orders_mapped, set_mapped, supply_mapped, statement_mapped}

module _ (named : List ℕ → Tree) (counted : Count → Count) where
  pub as_many : (ts : Trees) → count_of_trees (trees_mapped named counted ts) ≡ count_of_trees ts
  as_many no_tree = refl
  as_many (tree t ts) = ap suc (as_many ts)

-- a node that is no name, no LIMIT and no statement
abbrev pub is_plain : Node → Bool
is_plain (a_name sight n) = false
is_plain (a_limit c) = false
is_plain (a_statement s) = false
is_plain node = true

module _ {A : Type 0} (ask ask' : Node → List A) where
  -- what is asked of some nodes has the answers of what is asked of others
  pub record Alike (a b : List Node) : Type 0 where
    pub same : flat_map ask a ≡ flat_map ask' b

  pub none : Alike [] []
  none = record { same = refl }

  pub behind : {a a' b b' : List Node} → Alike a a' → Alike b b' → Alike (a ++ b) (a' ++ b')
  behind {a} {a'} {b} {b'} p q = record { same = flat_map-append ask a b ∙ (λ i. p.same i ++ q.same i) ∙ sym (flat_map-append ask' a' b') }

  pub after_one : (x x' : Node) {a b : List Node} → ask x ≡ ask' x' → Alike a b → Alike (x ∷ a) (x' ∷ b)
  after_one x x' e h = record { same = λ i. e i ++ h.same i }

  module _ (named : List ℕ → Tree) (counted : Count → Count) (plain : (x : Node) → is_plain x ≡ true → ask x ≡ ask' x) (names : (n : List ℕ) (sight : Sight) → Alike (nodes_of_tree (named n) sight) (a_name sight n ∷ [])) (limits : (c : Count) → ask (a_limit (counted c)) ≡ ask' (a_limit c)) where
    one : (x : Node) → is_plain x ≡ true → Alike (x ∷ []) (x ∷ [])
    one x e = after_one x x (plain x e) none

    offset_asked : (o : Option Count) → Alike (option_map_or (λ c. a_limit c ∷ []) (option_map counted o) []) (option_map_or (λ c. a_limit c ∷ []) o [])
    offset_asked None = none
    offset_asked (Some c) = record { same = λ i. limits c i ++ [] }

    limit_asked : (l : Option Limit) → Alike (limit_nodes (option_map (limit_mapped named counted) l)) (limit_nodes l)
    limit_asked None = none
    limit_asked (Some l) = record { same = λ i. limits l.count i ++ (offset_asked l.offset).same i }

    count_asked : (c : Option Count) → Alike (count_nodes (option_map counted c)) (count_nodes c)
    count_asked None = none
    count_asked (Some c) = record { same = λ i. limits c i ++ [] }

    mutual
      pub tree_asked : (t : Tree) (sight : Sight) → Alike (nodes_of_tree (tree_mapped named counted t) sight) (nodes_of_tree t sight)
      tree_asked (literal v) sight = none
      tree_asked (name n) sight = names n sight
      tree_asked (column t c) sight = one (a_column sight t c) refl
      tree_asked (new_column c) sight = one (a_new_column c) refl
      tree_asked (old_column c) sight = one (an_old_column c) refl
      tree_asked (user_variable n) sight = one (a_user_variable n) refl
      tree_asked (system_variable n) sight = one (a_system_variable n) refl
      tree_asked (unary op a) sight = tree_asked a sight
      tree_asked (binary op a b) sight = behind (tree_asked a sight) (tree_asked b sight)
      tree_asked (is_in negated a ts) sight = behind (tree_asked a sight) (trees_asked ts sight)
      tree_asked (choice arms o) sight = behind (arms_asked arms sight) (part_asked o sight)
      tree_asked (subquery q) sight = query_asked q sight
      tree_asked (exists q) sight = query_asked q sight
      tree_asked (call n ts) sight =
          after_one (a_function_call n (count_of_trees (trees_mapped named counted ts))) (a_function_call n (count_of_trees ts))
          (ap (λ (k : ℕ). ask (a_function_call n k)) (as_many named counted ts) ∙ plain (a_function_call n (count_of_trees ts)) refl) (trees_asked ts sight)
      tree_asked (values_of c) sight = one (an_inserted_value sight c) refl
      tree_asked (name_const n v) sight = none
      tree_asked (floor_rand a) sight = after_one a_random_number a_random_number (plain a_random_number refl) (tree_asked a sight)
      tree_asked (built_in f ts) sight = after_one (a_built_in f) (a_built_in f) (plain (a_built_in f) refl) (trees_asked ts sight)

      pub trees_asked : (ts : Trees) (sight : Sight) → Alike (nodes_of_trees (trees_mapped named counted ts) sight) (nodes_of_trees ts sight)
      trees_asked no_tree sight = none
      trees_asked (tree t ts) sight = behind (tree_asked t sight) (trees_asked ts sight)

      arms_asked : (arms : Arms) (sight : Sight) → Alike (nodes_of_arms (arms_mapped named counted arms) sight) (nodes_of_arms arms sight)
      arms_asked no_arm sight = none
      arms_asked (arm c v arms) sight = behind (behind (tree_asked c sight) (tree_asked v sight)) (arms_asked arms sight)

      part_asked : (o : Part) (sight : Sight) → Alike (nodes_of_part (part_mapped named counted o) sight) (nodes_of_part o sight)
      part_asked no_part sight = none
      part_asked (part t) sight = tree_asked t sight

      pub query_asked : (q : Query) (sight : Sight) → Alike (nodes_of_query (query_mapped named counted q) sight) (nodes_of_query q sight)
      query_asked (query w no_origin) sight = behind (selected_asked w sight) none
      query_asked (query w (from_table t c os l)) sight = behind (selected_asked w (in_sight t sight)) (origin_asked (from_table t c os l) sight)

      selected_asked : (w : Selected) (sight : Sight) → Alike (nodes_of_selected (selected_mapped named counted w) sight) (nodes_of_selected w sight)
      selected_asked (items ts) sight = trees_asked ts sight
      selected_asked all_columns sight = none
      selected_asked (aggregates rest) sight = aggregates_asked rest sight

      aggregates_asked : (rest : Aggregates) (sight : Sight) → Alike (nodes_of_aggregates (aggregates_mapped named counted rest) sight) (nodes_of_aggregates rest sight)
      aggregates_asked no_aggregate sight = none
      aggregates_asked (count_all rest) sight = aggregates_asked rest sight
      aggregates_asked (aggregate f a rest) sight = behind (tree_asked a sight) (aggregates_asked rest sight)

      origin_asked : (o : Origin) (sight : Sight) → Alike (nodes_of_origin (origin_mapped named counted o) sight) (nodes_of_origin o sight)
      origin_asked no_origin sight = none
      origin_asked (from_table t w os l) sight = after_one (a_table_read t) (a_table_read t) (plain (a_table_read t) refl) (behind (behind (part_asked w (in_sight t sight)) (orders_asked os (in_sight t sight))) (limit_asked l))

      orders_asked : (os : Orders) (sight : Sight) → Alike (nodes_of_orders (orders_mapped named counted os) sight) (nodes_of_orders os sight)
      orders_asked no_order sight = none
      orders_asked (order_by t down os) sight = behind (tree_asked t sight) (orders_asked os sight)

    sets_asked : (ss : List (List ℕ × Tree)) (sight : Sight) → Alike (nodes_of_sets (map (set_mapped named counted) ss) sight) (nodes_of_sets ss sight)
    sets_asked [] sight = none
    sets_asked (s ∷ ss) sight = behind (tree_asked s.1 sight) (sets_asked ss sight)

    pub rows_asked : (rs : List Trees) (sight : Sight) → Alike (nodes_of_rows (map (trees_mapped named counted) rs) sight) (nodes_of_rows rs sight)
    rows_asked [] sight = none
    rows_asked (r ∷ rs) sight = behind (trees_asked r sight) (rows_asked rs sight)

    supply_asked : (s : Supply) (sight : Sight) → Alike (nodes_of_supply (supply_mapped named counted s) sight) (nodes_of_supply s sight)
    supply_asked (rows rs) sight = rows_asked rs sight
    supply_asked (rows_of q) sight = query_asked q sight

    -- a statement and the nodes behind it, by what is asked of the statement itself
    headed : {s s' : Statement} {a b : List Node} → ask (a_statement s) ≡ ask' (a_statement s') → Alike a b → Alike (a_statement s ∷ a) (a_statement s' ∷ b)
    headed {s} {s'} e h = after_one (a_statement s) (a_statement s') e h

    pub statement_asked : (s : Statement) → ask (a_statement (statement_mapped named counted s)) ≡ ask' (a_statement s) → (is_closable s ≡ false → Alike (nodes_of s) (nodes_of s)) → Alike (nodes_of (statement_mapped named counted s)) (nodes_of s)
    statement_asked (insert_into ignore t cs from us) e rest = headed e (behind (supply_asked from no_sight) (sets_asked us (sight_of_update t)))
    statement_asked (replace_into t cs from) e rest = headed e (supply_asked from no_sight)
    statement_asked (update_rows t ss w os l) e rest = headed e (behind (behind (behind (sets_asked ss (in_sight t no_sight)) (part_asked w (in_sight t no_sight))) (orders_asked os (in_sight t no_sight))) (count_asked l))
    statement_asked (delete_rows t w os l) e rest = headed e (behind (behind (part_asked w (in_sight t no_sight)) (orders_asked os (in_sight t no_sight))) (count_asked l))
    statement_asked (select q) e rest = headed e (query_asked q no_sight)
    statement_asked (evaluate ts) e rest = headed e (trees_asked ts no_sight)
    statement_asked (create_table t) e rest = rest refl
    statement_asked (create_function p) e rest = rest refl
    statement_asked (create_procedure p) e rest = rest refl
    statement_asked (create_trigger t) e rest = rest refl
    statement_asked (drop_table n) e rest = rest refl
    statement_asked (drop_function n) e rest = rest refl
    statement_asked (drop_procedure n) e rest = rest refl
    statement_asked (drop_trigger n) e rest = rest refl
    statement_asked (truncate n) e rest = rest refl
    statement_asked (set_all as') e rest = rest refl
    statement_asked (call_procedure n ts) e rest = rest refl
    statement_asked begin e rest = rest refl
    statement_asked commit e rest = rest refl
    statement_asked rollback e rest = rest refl
    statement_asked (savepoint n) e rest = rest refl
    statement_asked (rollback_to n) e rest = rest refl
    statement_asked (release_savepoint n) e rest = rest refl
    statement_asked (block ds ss) e rest = rest refl
    statement_asked (if_steps bs o) e rest = rest refl
    statement_asked (while_steps c ss) e rest = rest refl
    statement_asked (return_value t) e rest = rest refl
