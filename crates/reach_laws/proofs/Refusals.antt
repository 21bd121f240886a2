-- What refuses statements and expressions is the same in settings that are the same to what these name.
use Rattle.std.proofs.Common.{◌≡◌, ℕ, true, false, not, ◌||◌, ◌==◌, List, [], ◌∷◌, ◌++◌, length, flat_map, Option, Some, None, refl}
use Rattle.std.specs.Prelude.{find, is_some}
use Rattle.std.specs.List.{AllByRecursion, list_any, enumerate_from}
use Rattle.std.specs.Option.{option_map, option_map_or}
use Rattle.val_types.specs.declared.definitions.TableDef.{TableDef}
use Rattle.sql_tree.specs.Tree.{Tree, query, items, all_columns, aggregates, no_origin, from_table}
use Rattle.sql_tree.specs.Statement.{Supply, rows, rows_of}
use Rattle.sql_tree.specs.Statement.{Statement, create_table, create_function, create_procedure, create_trigger, drop_table, drop_function, drop_procedure, drop_trigger, truncate, insert_into, replace_into, update_rows, delete_rows, select, evaluate, set_all, call_procedure, begin, commit, rollback, savepoint, rollback_to, release_savepoint, block, if_steps, while_steps, return_value}
use Rattle.sql_reach.specs.catalog_rules.Names.{same_name, is_among, has_twice}
use Rattle.sql_reach.specs.catalog_rules.Bodies.{has_code}
use Rattle.sql_reach.specs.catalog_rules.Objects.{Object, table_in, function_in, procedure_in, parameters_of}
use Rattle.sql_reach.specs.catalog_rules.Nodes.{Node, a_name, a_column, a_new_column, an_old_column, an_inserted_value, a_user_variable, a_system_variable, a_built_in, a_random_number, a_function_call, a_table_read, a_limit, a_statement, no_sight, nodes_of, nodes_of_tree, count_of_trees}
use Rattle.sql_reach.specs.catalog_rules.Checks.{Scope, unless, has_column, given_columns, is_left_out, has_width, tables_read, reads_its_target, columns_codes, statement_codes, node_codes, check_order, first_code, statement_refusal, expression_refusal}

-- the same tables and procedures, and the same function wherever a node calls one
module _ (os os' : List Object) (tables : (name : List ℕ) → table_in os' name ≡ table_in os name) (procedures : (name : List ℕ) → procedure_in os' name ≡ procedure_in os name) where
  abbrev pub SameCall : Node → Type 0
  SameCall (a_function_call n count) = function_in os' n ≡ function_in os n
  SameCall node = Unit {0}

  width_same : (count : ℕ) (from : Supply) → has_width os' count from ≡ has_width os count from
  width_same count (rows rs) = refl
  width_same count (rows_of (query (items ts) o)) = refl
  width_same count (rows_of (query (aggregates rest) o)) = refl
  width_same count (rows_of (query all_columns no_origin)) = refl
  width_same count (rows_of (query all_columns (from_table t w os limit))) = λ i. option_map_or (λ width. width == count) (option_map (λ (d : TableDef). length d.columns) (tables t i)) true

  columns_same : (names : Option (List (List ℕ))) (from : Supply) (d : TableDef) → columns_codes os' names from d ≡ columns_codes os names from d
  columns_same names from d =
      λ i. unless (not (list_any (λ c. not (has_column c d)) (given_columns d names))) 1054
      ++ unless (not (has_twice (given_columns d names))) 1110
      ++ unless (width_same (length (given_columns d names)) from i) 1136
      ++ unless (not (reads_its_target d.name from)) 1093
      ++ unless (not (list_any (is_left_out d (given_columns d names)) (enumerate_from 0 d.columns))) 1364

  abbrev Same : (s : Statement) (scope : Scope) → Type 0
  Same s scope = statement_codes os' scope s ≡ statement_codes os scope s

  statement_same : (scope : Scope) (s : Statement) → Same s scope
  statement_same scope (insert_into ignore t names from sets) =
      λ i. option_map_or (λ d. columns_same names from d i) (tables t i) (1146 ∷ [])
      ++ flat_map (λ (s : List ℕ × Tree). unless (option_map_or (has_column s.0) (tables t i) false) 1054) sets
  statement_same scope (replace_into t names from) = λ i. option_map_or (λ d. columns_same names from d i) (tables t i) (1146 ∷ [])
  statement_same scope (update_rows t sets w orders limit) =
      λ i. flat_map (λ (s : List ℕ × Tree). unless (option_map_or (has_column s.0) (tables t i) false) 1054) sets
      ++ (unless (is_some (tables t i)) 1146 ++ unless (not (is_among (tables_read (nodes_of (update_rows t sets w orders limit))) t)) 1093)
  statement_same scope (delete_rows t w orders limit) =
      λ i. unless (is_some (tables t i)) 1146 ++ unless (not (is_among (tables_read (nodes_of (delete_rows t w orders limit))) t)) 1093
  statement_same scope (set_all as') = refl
  statement_same scope (call_procedure n ts) =
      λ i. elim (procedures n i) as (λ _. List ℕ) [ None ↦ 1305 ∷ [] | Some p ↦ unless (length (parameters_of p) == count_of_trees ts) 1318 ]
  statement_same scope (create_table x) = refl
  statement_same scope (create_function x) = refl
  statement_same scope (create_procedure x) = refl
  statement_same scope (create_trigger x) = refl
  statement_same scope (drop_table x) = refl
  statement_same scope (drop_function x) = refl
  statement_same scope (drop_procedure x) = refl
  statement_same scope (drop_trigger x) = refl
  statement_same scope (truncate x) = refl
  statement_same scope (select q) = refl
  statement_same scope (evaluate ts) = refl
  statement_same scope begin = refl
  statement_same scope commit = refl
  statement_same scope rollback = refl
  statement_same scope (savepoint x) = refl
  statement_same scope (rollback_to x) = refl
  statement_same scope (release_savepoint x) = refl
  statement_same scope (block ds ss) = refl
  statement_same scope (if_steps bs o) = refl
  statement_same scope (while_steps c ss) = refl
  statement_same scope (return_value x) = refl

  node_same : (scope : Scope) (node : Node) → SameCall node → node_codes os' scope node ≡ node_codes os scope node
  node_same scope (a_name sight n) e = λ i. unless (is_among scope.locals n || list_any (λ t. option_map_or (has_column n) (tables t i) false) sight.tables) 1054
  node_same scope (a_column sight t c) e = λ i. unless (option_map_or (λ u. option_map_or (has_column c) (tables u i) false) (find (same_name t) sight.tables) false) 1054
  node_same scope (a_new_column c) e = refl
  node_same scope (an_old_column c) e = refl
  node_same scope (an_inserted_value sight c) e = λ i. unless (option_map_or (λ u. option_map_or (has_column c) (tables u i) false) sight.inserted false) 1054
  node_same scope (a_user_variable n) e = refl
  node_same scope (a_system_variable n) e = refl
  node_same scope (a_built_in f) e = refl
  node_same scope a_random_number e = refl
  node_same scope (a_function_call n count) e = λ i. elim (e i) as (λ _. List ℕ) [ None ↦ 1305 ∷ [] | Some p ↦ unless (length (parameters_of p) == count) 1318 ]
  node_same scope (a_table_read t) e = λ i. unless (is_some (tables t i)) 1146
  node_same scope (a_limit c) e = refl
  node_same scope (a_statement s) e = statement_same scope s

  codes_same : (scope : Scope) (ns : List Node) → AllByRecursion SameCall ns → flat_map (node_codes os' scope) ns ≡ flat_map (node_codes os scope) ns
  codes_same scope [] h = refl
  codes_same scope (n ∷ ns) h = λ i. node_same scope n h.0 i ++ codes_same scope ns h.1 i

  pub first_same : (scope : Scope) (ns : List Node) → AllByRecursion SameCall ns → first_code os' scope ns ≡ first_code os scope ns
  first_same scope ns h = λ i. find (has_code (codes_same scope ns h i)) check_order

  pub statement_refused : (scope : Scope) (s : Statement) → AllByRecursion SameCall (nodes_of s) → statement_refusal os' scope s ≡ statement_refusal os scope s
  unfolding statement_refusal
  statement_refused scope s h = first_same scope (nodes_of s) h

  pub expression_refused : (scope : Scope) (e : Tree) → AllByRecursion SameCall (nodes_of_tree e no_sight) → expression_refusal os' scope e ≡ expression_refusal os scope e
  unfolding expression_refusal
  expression_refused scope e h = first_same scope (nodes_of_tree e no_sight) h
