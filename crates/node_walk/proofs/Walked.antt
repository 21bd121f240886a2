-- The walk over a statement's tree asks of its nodes, all of them.
use Rattle.std.proofs.Common.{◌≡◌, ℕ, Bool, true, false, ◌||◌, List, [], ◌∷◌, ◌++◌, Option, Some, None, refl, ap, ◌∙◌}
use Rattle.std.specs.List.{list_any}
use Rattle.std.specs.Option.{option_map_or}
use Rattle.std.proofs.lemmas.List.Folds.{list_any-append}
use Rattle.sql_tree.specs.Tree.{Tree, literal, name, column, new_column, old_column, user_variable, system_variable, unary, binary, is_in, choice, subquery, exists, call, built_in, values_of, name_const, floor_rand}
use Rattle.sql_tree.specs.Tree.{Trees, no_tree, tree, Arms, no_arm, arm, Part, no_part, part, Query, query, Selected, items, all_columns, aggregates}
use Rattle.sql_tree.specs.Tree.{Aggregates, no_aggregate, count_all, aggregate, Origin, no_origin, from_table, Orders, no_order, order_by}
use Rattle.sql_tree.specs.Statement.{Supply, rows, rows_of, Declared}
use Rattle.sql_tree.specs.Statement.{Statement, create_table, create_function, create_procedure, create_trigger, drop_table, drop_function, drop_procedure, drop_trigger, truncate, insert_into, replace_into, update_rows, delete_rows, select, evaluate, set_all, call_procedure, begin, commit, rollback, savepoint, rollback_to, release_savepoint, block, if_steps, while_steps, return_value}
use Rattle.sql_tree.specs.Statement.{Statements, no_statement, statement, Branches, no_branch, branch, Otherwise, no_else, else_steps}
use Rattle.sql_tree.specs.declared.expressions.Limit.{Limit}
use Rattle.sql_tree.specs.declared.expressions.Count.{Count}
use Rattle.sql_tree.specs.declared.statements.Target.{Target}
use Rattle.catalog_objects.specs.catalog_rules.Nodes.{Node, Sight, a_limit, no_sight, in_sight, sight_in, sight_of_update, limit_nodes, count_nodes, nodes_of_tree, nodes_of_trees, nodes_of_arms, nodes_of_part, nodes_of_query, nodes_of_selected, nodes_of_aggregates, nodes_of_origin, nodes_of_orders}
use Rattle.catalog_objects.specs.catalog_rules.Nodes.{nodes_of_sets, nodes_of_rows, nodes_of_supply, nodes_of_assignments, nodes_of_declared, nodes_of, nodes_of_steps, nodes_of_branches, nodes_of_otherwise}
use Rattle.node_walk.specs.declared.asking.Ask.{Ask}
use Rattle.node_walk.specs.Asking.{asks_built_in, asks_call, asks_limit, asks_node, asks_random_number, asks_statement, asks_system_variable, asks_table}
use Rattle.node_walk.specs.Walking.{in_count, in_limit, in_tree, in_trees, in_arms, in_part, in_query, in_selected, in_aggregates, in_origin, in_orders, in_sets, in_rows, in_supply, in_assignments, in_declared, in_steps, in_branches, in_otherwise, in_statement}

-- whether what is asked holds of some nodes
abbrev among : Ask → List Node → Bool
among ask ns = list_any (asks_node ask) ns

both : (a b c d : Bool) → a ≡ b → c ≡ d → (a || c) ≡ (b || d)
both a b c d e f = cc

or_none : (a : Bool) → (a || false) ≡ a
or_none true = refl
or_none false = refl

-- nodes behind nodes
joined : (ask : Ask) (xs ys : List Node) (a b : Bool) → among ask xs ≡ a → among ask ys ≡ b → among ask (xs ++ ys) ≡ (a || b)
joined ask xs ys a b e f = list_any-append (asks_node ask) xs ys ∙ both _ _ _ _ e f

three : (ask : Ask) (xs ys zs : List Node) (a b c : Bool) → among ask xs ≡ a → among ask ys ≡ b → among ask zs ≡ c → among ask (xs ++ ys ++ zs) ≡ ((a || b) || c)
three ask xs ys zs a b c e f g = joined ask (xs ++ ys) zs (a || b) c (joined ask xs ys a b e f) g

offset_walked : (ask : Ask) (c : Option Count) → among ask (option_map_or (λ c. a_limit c ∷ []) c []) ≡ in_count ask c
offset_walked ask None = refl
offset_walked ask (Some c) = or_none (asks_limit ask c)

limit_walked : (ask : Ask) (l : Option Limit) → among ask (limit_nodes l) ≡ in_limit ask l
limit_walked ask None = refl
limit_walked ask (Some l) = ap (λ b. asks_limit ask l.count || b) (offset_walked ask l.offset)

count_walked : (ask : Ask) (c : Option Count) → among ask (count_nodes c) ≡ in_count ask c
count_walked ask None = refl
count_walked ask (Some c) = or_none (asks_limit ask c)

mutual
  pub tree_walked : (ask : Ask) (t : Tree) (sight : Sight) → among ask (nodes_of_tree t sight) ≡ in_tree ask t
  tree_walked ask (literal v) sight = refl
  tree_walked ask (name n) sight = refl
  tree_walked ask (column t c) sight = refl
  tree_walked ask (new_column c) sight = refl
  tree_walked ask (old_column c) sight = refl
  tree_walked ask (user_variable n) sight = refl
  tree_walked ask (system_variable n) sight = or_none (asks_system_variable ask n)
  tree_walked ask (unary op a) sight = tree_walked ask a sight
  tree_walked ask (binary op a b) sight = joined ask (nodes_of_tree a sight) (nodes_of_tree b sight) _ _ (tree_walked ask a sight) (tree_walked ask b sight)
  tree_walked ask (is_in negated a ts) sight = joined ask (nodes_of_tree a sight) (nodes_of_trees ts sight) _ _ (tree_walked ask a sight) (trees_walked ask ts sight)
  tree_walked ask (choice arms o) sight = joined ask (nodes_of_arms arms sight) (nodes_of_part o sight) _ _ (arms_walked ask arms sight) (part_walked ask o sight)
  tree_walked ask (subquery q) sight = query_walked ask q sight
  tree_walked ask (exists q) sight = query_walked ask q sight
  tree_walked ask (call n ts) sight = ap (λ b. asks_call ask n || b) (trees_walked ask ts sight)
  tree_walked ask (values_of c) sight = refl
  tree_walked ask (name_const n v) sight = refl
  tree_walked ask (floor_rand a) sight = ap (λ b. asks_random_number ask || b) (tree_walked ask a sight)
  tree_walked ask (built_in f ts) sight = ap (λ b. asks_built_in ask f || b) (trees_walked ask ts sight)

  pub trees_walked : (ask : Ask) (ts : Trees) (sight : Sight) → among ask (nodes_of_trees ts sight) ≡ in_trees ask ts
  trees_walked ask no_tree sight = refl
  trees_walked ask (tree t ts) sight = joined ask (nodes_of_tree t sight) (nodes_of_trees ts sight) _ _ (tree_walked ask t sight) (trees_walked ask ts sight)

  arms_walked : (ask : Ask) (arms : Arms) (sight : Sight) → among ask (nodes_of_arms arms sight) ≡ in_arms ask arms
  arms_walked ask no_arm sight = refl
  arms_walked ask (arm c v arms) sight = three ask (nodes_of_tree c sight) (nodes_of_tree v sight) (nodes_of_arms arms sight) _ _ _ (tree_walked ask c sight) (tree_walked ask v sight) (arms_walked ask arms sight)

  part_walked : (ask : Ask) (p : Part) (sight : Sight) → among ask (nodes_of_part p sight) ≡ in_part ask p
  part_walked ask no_part sight = refl
  part_walked ask (part t) sight = tree_walked ask t sight

  query_walked : (ask : Ask) (q : Query) (sight : Sight) → among ask (nodes_of_query q sight) ≡ in_query ask q
  query_walked ask (query w o) sight = joined ask (nodes_of_selected w (sight_in o sight)) (nodes_of_origin o sight) _ _ (selected_walked ask w (sight_in o sight)) (origin_walked ask o sight)

  selected_walked : (ask : Ask) (w : Selected) (sight : Sight) → among ask (nodes_of_selected w sight) ≡ in_selected ask w
  selected_walked ask (items ts) sight = trees_walked ask ts sight
  selected_walked ask all_columns sight = refl
  selected_walked ask (aggregates rest) sight = aggregates_walked ask rest sight

  aggregates_walked : (ask : Ask) (as' : Aggregates) (sight : Sight) → among ask (nodes_of_aggregates as' sight) ≡ in_aggregates ask as'
  aggregates_walked ask no_aggregate sight = refl
  aggregates_walked ask (count_all rest) sight = aggregates_walked ask rest sight
  aggregates_walked ask (aggregate f a rest) sight = joined ask (nodes_of_tree a sight) (nodes_of_aggregates rest sight) _ _ (tree_walked ask a sight) (aggregates_walked ask rest sight)

  origin_walked : (ask : Ask) (o : Origin) (sight : Sight) → among ask (nodes_of_origin o sight) ≡ in_origin ask o
  origin_walked ask no_origin sight = refl
  origin_walked ask (from_table t w os l) sight =
      ap (λ b. asks_table ask t || b)
      (three ask (nodes_of_part w (in_sight t sight)) (nodes_of_orders os (in_sight t sight)) (limit_nodes l) _ _ _
      (part_walked ask w (in_sight t sight)) (orders_walked ask os (in_sight t sight)) (limit_walked ask l))

  orders_walked : (ask : Ask) (os : Orders) (sight : Sight) → among ask (nodes_of_orders os sight) ≡ in_orders ask os
  orders_walked ask no_order sight = refl
  orders_walked ask (order_by t d os) sight = joined ask (nodes_of_tree t sight) (nodes_of_orders os sight) _ _ (tree_walked ask t sight) (orders_walked ask os sight)

sets_walked : (ask : Ask) (ss : List (List ℕ × Tree)) (sight : Sight) → among ask (nodes_of_sets ss sight) ≡ in_sets ask ss
sets_walked ask [] sight = refl
sets_walked ask (s ∷ ss) sight = joined ask (nodes_of_tree s.1 sight) (nodes_of_sets ss sight) _ _ (tree_walked ask s.1 sight) (sets_walked ask ss sight)

rows_walked : (ask : Ask) (rs : List Trees) (sight : Sight) → among ask (nodes_of_rows rs sight) ≡ in_rows ask rs
rows_walked ask [] sight = refl
rows_walked ask (r ∷ rs) sight = joined ask (nodes_of_trees r sight) (nodes_of_rows rs sight) _ _ (trees_walked ask r sight) (rows_walked ask rs sight)

supply_walked : (ask : Ask) (from : Supply) (sight : Sight) → among ask (nodes_of_supply from sight) ≡ in_supply ask from
supply_walked ask (rows rs) sight = rows_walked ask rs sight
supply_walked ask (rows_of q) sight = query_walked ask q sight

assignments_walked : (ask : Ask) (as' : List (Target × Tree)) (sight : Sight) → among ask (nodes_of_assignments as' sight) ≡ in_assignments ask as'
assignments_walked ask [] sight = refl
assignments_walked ask (a ∷ as') sight = joined ask (nodes_of_tree a.1 sight) (nodes_of_assignments as' sight) _ _ (tree_walked ask a.1 sight) (assignments_walked ask as' sight)

declared_walked : (ask : Ask) (ds : List Declared) (sight : Sight) → among ask (nodes_of_declared ds sight) ≡ in_declared ask ds
declared_walked ask [] sight = refl
declared_walked ask (d ∷ ds) sight = joined ask (nodes_of_part d.preset sight) (nodes_of_declared ds sight) _ _ (part_walked ask d.preset sight) (declared_walked ask ds sight)

-- what stands behind a statement among its nodes
behind : (ask : Ask) (s : Statement) (a b : Bool) → a ≡ b → (asks_statement ask s || a) ≡ (asks_statement ask s || b)
behind ask s a b e = ap (λ t. asks_statement ask s || t) e

mutual
  pub statement_walked : (ask : Ask) (s : Statement) → list_any (asks_node ask) (nodes_of s) ≡ in_statement ask s
  statement_walked ask (create_table t) = refl
  statement_walked ask (create_function p) = refl
  statement_walked ask (create_procedure p) = refl
  statement_walked ask (create_trigger t) = refl
  statement_walked ask (drop_table n) = refl
  statement_walked ask (drop_function n) = refl
  statement_walked ask (drop_procedure n) = refl
  statement_walked ask (drop_trigger n) = refl
  statement_walked ask (truncate n) = refl
  statement_walked ask (insert_into ignore t cs from us) =
      behind ask (insert_into ignore t cs from us) _ _ (joined ask (nodes_of_supply from no_sight) (nodes_of_sets us (sight_of_update t)) _ _ (supply_walked ask from no_sight) (sets_walked ask us (sight_of_update t)))
  statement_walked ask (replace_into t cs from) = behind ask (replace_into t cs from) _ _ (supply_walked ask from no_sight)
  statement_walked ask (update_rows t ss w os l) =
      behind ask (update_rows t ss w os l) _ _
      (joined ask (nodes_of_sets ss (in_sight t no_sight) ++ nodes_of_part w (in_sight t no_sight) ++ nodes_of_orders os (in_sight t no_sight)) (count_nodes l) _ _
      (three ask (nodes_of_sets ss (in_sight t no_sight)) (nodes_of_part w (in_sight t no_sight)) (nodes_of_orders os (in_sight t no_sight)) _ _ _
      (sets_walked ask ss (in_sight t no_sight)) (part_walked ask w (in_sight t no_sight)) (orders_walked ask os (in_sight t no_sight))) (count_walked ask l))
  statement_walked ask (delete_rows t w os l) =
      behind ask (delete_rows t w os l) _ _
      (three ask (nodes_of_part w (in_sight t no_sight)) (nodes_of_orders os (in_sight t no_sight)) (count_nodes l) _ _ _
      (part_walked ask w (in_sight t no_sight)) (orders_walked ask os (in_sight t no_sight)) (count_walked ask l))
  statement_walked ask (select q) = behind ask (select q) _ _ (query_walked ask q no_sight)
  statement_walked ask (evaluate ts) = behind ask (evaluate ts) _ _ (trees_walked ask ts no_sight)
  statement_walked ask (set_all as') = behind ask (set_all as') _ _ (assignments_walked ask as' no_sight)
  statement_walked ask (call_procedure n ts) = behind ask (call_procedure n ts) _ _ (trees_walked ask ts no_sight)
  statement_walked ask begin = refl
  statement_walked ask commit = refl
  statement_walked ask rollback = refl
  statement_walked ask (savepoint n) = refl
  statement_walked ask (rollback_to n) = refl
  statement_walked ask (release_savepoint n) = refl
  statement_walked ask (block ds ss) = behind ask (block ds ss) _ _ (joined ask (nodes_of_declared ds no_sight) (nodes_of_steps ss) _ _ (declared_walked ask ds no_sight) (steps_walked ask ss))
  statement_walked ask (if_steps bs o) = behind ask (if_steps bs o) _ _ (joined ask (nodes_of_branches bs) (nodes_of_otherwise o) _ _ (branches_walked ask bs) (otherwise_walked ask o))
  statement_walked ask (while_steps c ss) = behind ask (while_steps c ss) _ _ (joined ask (nodes_of_tree c no_sight) (nodes_of_steps ss) _ _ (tree_walked ask c no_sight) (steps_walked ask ss))
  statement_walked ask (return_value e) = behind ask (return_value e) _ _ (tree_walked ask e no_sight)

  steps_walked : (ask : Ask) (ss : Statements) → among ask (nodes_of_steps ss) ≡ in_steps ask ss
  steps_walked ask no_statement = refl
  steps_walked ask (statement s ss) = joined ask (nodes_of s) (nodes_of_steps ss) _ _ (statement_walked ask s) (steps_walked ask ss)

  branches_walked : (ask : Ask) (bs : Branches) → among ask (nodes_of_branches bs) ≡ in_branches ask bs
  branches_walked ask no_branch = refl
  branches_walked ask (branch c ss bs) = three ask (nodes_of_tree c no_sight) (nodes_of_steps ss) (nodes_of_branches bs) _ _ _ (tree_walked ask c no_sight) (steps_walked ask ss) (branches_walked ask bs)

  otherwise_walked : (ask : Ask) (o : Otherwise) → among ask (nodes_of_otherwise o) ≡ in_otherwise ask o
  otherwise_walked ask no_else = refl
  otherwise_walked ask (else_steps ss) = steps_walked ask ss
