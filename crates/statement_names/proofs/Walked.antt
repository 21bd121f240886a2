-- The walk over a statement's tree visits its nodes, one after the other.
use Rattle.std.proofs.Common.{◌≡◌, ℕ, List, [], ◌∷◌, ◌++◌, Option, Some, None, refl, ap, ◌∙◌}
use Rattle.std.specs.Option.{option_map_or}
use Rattle.sql_tree.specs.Tree.{Tree, literal, name, column, new_column, old_column, user_variable, system_variable, unary, binary, is_in, choice, subquery, exists, call, built_in, values_of, name_const, floor_rand}
use Rattle.sql_tree.specs.Tree.{Trees, no_tree, tree, Arms, no_arm, arm, Part, no_part, part, Query, query, Selected, items, all_columns, aggregates}
use Rattle.sql_tree.specs.Tree.{Aggregates, no_aggregate, count_all, aggregate, Origin, no_origin, from_table, Orders, no_order, order_by}
use Rattle.sql_tree.specs.Statement.{Supply, rows, rows_of, Declared}
use Rattle.sql_tree.specs.Statement.{Statement, create_table, create_function, create_procedure, create_trigger, drop_table, drop_function, drop_procedure, drop_trigger, truncate, insert_into, replace_into, update_rows, delete_rows, select, evaluate, set_all, call_procedure, begin, commit, rollback, savepoint, rollback_to, release_savepoint, block, if_steps, while_steps, return_value}
use Rattle.sql_tree.specs.Statement.{Statements, no_statement, statement, Branches, no_branch, branch, Otherwise, no_else, else_steps}
use Rattle.sql_tree.specs.declared.expressions.Limit.{Limit}
use Rattle.sql_tree.specs.declared.expressions.Count.{Count}
use Rattle.sql_tree.specs.declared.statements.Target.{Target}
use Rattle.sql_reach.specs.catalog_rules.Nodes.{Node, Sight, a_limit, no_sight, in_sight, sight_in, sight_of_update, limit_nodes, count_nodes, nodes_of_tree, nodes_of_trees, nodes_of_arms, nodes_of_part, nodes_of_query, nodes_of_selected, nodes_of_aggregates, nodes_of_origin, nodes_of_orders}
use Rattle.sql_reach.specs.catalog_rules.Nodes.{nodes_of_sets, nodes_of_rows, nodes_of_supply, nodes_of_assignments, nodes_of_declared, nodes_of, nodes_of_steps, nodes_of_branches, nodes_of_otherwise}
use Rattle.statement_names.specs.Visiting.{Visits, node_visited, nodes_visited}
use Rattle.statement_names.specs.Walking.{of_tree, of_trees, of_arms, of_part, of_query, of_selected, of_aggregates, of_origin, of_orders, of_sets, of_rows, of_supply, of_assignments, of_declared, of_statement, of_steps, of_branches, of_otherwise}

-- nodes behind nodes
pub put_more : {N : Type 0} (at : Visits N) (xs ys : List Node) (names : N) → nodes_visited at (xs ++ ys) names ≡ nodes_visited at ys (nodes_visited at xs names)
put_more at [] ys names = refl
put_more at (x ∷ xs) ys names = put_more at xs ys (node_visited at x names)

joined : {N : Type 0} (at : Visits N) (xs ys : List Node) (names front all : N) → nodes_visited at xs names ≡ front → nodes_visited at ys front ≡ all → nodes_visited at (xs ++ ys) names ≡ all
joined at xs ys names front all e f = put_more at xs ys names ∙ ap (nodes_visited at ys) e ∙ f

three : {N : Type 0} (at : Visits N) (xs ys zs : List Node) (names front more all : N) → nodes_visited at xs names ≡ front → nodes_visited at ys front ≡ more → nodes_visited at zs more ≡ all → nodes_visited at (xs ++ ys ++ zs) names ≡ all
three at xs ys zs names front more all e f g = joined at (xs ++ ys) zs names more all (joined at xs ys names front more e f) g

offset_none : {N : Type 0} (at : Visits N) (c : Option Count) (names : N) → nodes_visited at (option_map_or (λ c. a_limit c ∷ []) c []) names ≡ names
offset_none at None names = refl
offset_none at (Some c) names = refl

limit_none : {N : Type 0} (at : Visits N) (l : Option Limit) (names : N) → nodes_visited at (limit_nodes l) names ≡ names
limit_none at None names = refl
limit_none at (Some l) names = offset_none at l.offset names

count_none : {N : Type 0} (at : Visits N) (c : Option Count) (names : N) → nodes_visited at (count_nodes c) names ≡ names
count_none at None names = refl
count_none at (Some c) names = refl

mutual
  tree_walked : {N : Type 0} (at : Visits N) (t : Tree) (sight : Sight) (names : N) → nodes_visited at (nodes_of_tree t sight) names ≡ of_tree at t names
  tree_walked at (literal v) sight names = refl
  tree_walked at (name n) sight names = refl
  tree_walked at (column t c) sight names = refl
  tree_walked at (new_column c) sight names = refl
  tree_walked at (old_column c) sight names = refl
  tree_walked at (user_variable n) sight names = refl
  tree_walked at (system_variable n) sight names = refl
  tree_walked at (unary op a) sight names = tree_walked at a sight names
  tree_walked at (binary op a b) sight names = joined at (nodes_of_tree a sight) (nodes_of_tree b sight) names _ _ (tree_walked at a sight names) (tree_walked at b sight (of_tree at a names))
  tree_walked at (is_in negated a ts) sight names = joined at (nodes_of_tree a sight) (nodes_of_trees ts sight) names _ _ (tree_walked at a sight names) (trees_walked at ts sight (of_tree at a names))
  tree_walked at (choice arms o) sight names = joined at (nodes_of_arms arms sight) (nodes_of_part o sight) names _ _ (arms_walked at arms sight names) (part_walked at o sight (of_arms at arms names))
  tree_walked at (subquery q) sight names = query_walked at q sight names
  tree_walked at (exists q) sight names = query_walked at q sight names
  tree_walked at (call n ts) sight names = trees_walked at ts sight names
  tree_walked at (values_of c) sight names = refl
  tree_walked at (name_const n v) sight names = refl
  tree_walked at (floor_rand a) sight names = tree_walked at a sight names
  tree_walked at (built_in f ts) sight names = trees_walked at ts sight names

  trees_walked : {N : Type 0} (at : Visits N) (ts : Trees) (sight : Sight) (names : N) → nodes_visited at (nodes_of_trees ts sight) names ≡ of_trees at ts names
  trees_walked at no_tree sight names = refl
  trees_walked at (tree t ts) sight names = joined at (nodes_of_tree t sight) (nodes_of_trees ts sight) names _ _ (tree_walked at t sight names) (trees_walked at ts sight (of_tree at t names))

  arms_walked : {N : Type 0} (at : Visits N) (arms : Arms) (sight : Sight) (names : N) → nodes_visited at (nodes_of_arms arms sight) names ≡ of_arms at arms names
  arms_walked at no_arm sight names = refl
  arms_walked at (arm c v arms) sight names =
      three at (nodes_of_tree c sight) (nodes_of_tree v sight) (nodes_of_arms arms sight) names _ _ _
      (tree_walked at c sight names) (tree_walked at v sight (of_tree at c names)) (arms_walked at arms sight (of_tree at v (of_tree at c names)))

  part_walked : {N : Type 0} (at : Visits N) (p : Part) (sight : Sight) (names : N) → nodes_visited at (nodes_of_part p sight) names ≡ of_part at p names
  part_walked at no_part sight names = refl
  part_walked at (part t) sight names = tree_walked at t sight names

  query_walked : {N : Type 0} (at : Visits N) (q : Query) (sight : Sight) (names : N) → nodes_visited at (nodes_of_query q sight) names ≡ of_query at q names
  query_walked at (query w o) sight names =
      joined at (nodes_of_selected w (sight_in o sight)) (nodes_of_origin o sight) names _ _ (selected_walked at w (sight_in o sight) names) (origin_walked at o sight (of_selected at w names))

  selected_walked : {N : Type 0} (at : Visits N) (w : Selected) (sight : Sight) (names : N) → nodes_visited at (nodes_of_selected w sight) names ≡ of_selected at w names
  selected_walked at (items ts) sight names = trees_walked at ts sight names
  selected_walked at all_columns sight names = refl
  selected_walked at (aggregates rest) sight names = aggregates_walked at rest sight names

  aggregates_walked : {N : Type 0} (at : Visits N) (as' : Aggregates) (sight : Sight) (names : N) → nodes_visited at (nodes_of_aggregates as' sight) names ≡ of_aggregates at as' names
  aggregates_walked at no_aggregate sight names = refl
  aggregates_walked at (count_all rest) sight names = aggregates_walked at rest sight names
  aggregates_walked at (aggregate f a rest) sight names =
      joined at (nodes_of_tree a sight) (nodes_of_aggregates rest sight) names _ _ (tree_walked at a sight names) (aggregates_walked at rest sight (of_tree at a names))

  origin_walked : {N : Type 0} (at : Visits N) (o : Origin) (sight : Sight) (names : N) → nodes_visited at (nodes_of_origin o sight) names ≡ of_origin at o names
  origin_walked at no_origin sight names = refl
  origin_walked at (from_table t w os l) sight names =
      three at (nodes_of_part w (in_sight t sight)) (nodes_of_orders os (in_sight t sight)) (limit_nodes l) (at.table t names) _ _ _
      (part_walked at w (in_sight t sight) (at.table t names)) (orders_walked at os (in_sight t sight) (of_part at w (at.table t names))) (limit_none at l _)

  orders_walked : {N : Type 0} (at : Visits N) (os : Orders) (sight : Sight) (names : N) → nodes_visited at (nodes_of_orders os sight) names ≡ of_orders at os names
  orders_walked at no_order sight names = refl
  orders_walked at (order_by t d os) sight names = joined at (nodes_of_tree t sight) (nodes_of_orders os sight) names _ _ (tree_walked at t sight names) (orders_walked at os sight (of_tree at t names))

sets_walked : {N : Type 0} (at : Visits N) (ss : List (List ℕ × Tree)) (sight : Sight) (names : N) → nodes_visited at (nodes_of_sets ss sight) names ≡ of_sets at ss names
sets_walked at [] sight names = refl
sets_walked at (s ∷ ss) sight names = joined at (nodes_of_tree s.1 sight) (nodes_of_sets ss sight) names _ _ (tree_walked at s.1 sight names) (sets_walked at ss sight (of_tree at s.1 names))

rows_walked : {N : Type 0} (at : Visits N) (rs : List Trees) (sight : Sight) (names : N) → nodes_visited at (nodes_of_rows rs sight) names ≡ of_rows at rs names
rows_walked at [] sight names = refl
rows_walked at (r ∷ rs) sight names = joined at (nodes_of_trees r sight) (nodes_of_rows rs sight) names _ _ (trees_walked at r sight names) (rows_walked at rs sight (of_trees at r names))

supply_walked : {N : Type 0} (at : Visits N) (from : Supply) (sight : Sight) (names : N) → nodes_visited at (nodes_of_supply from sight) names ≡ of_supply at from names
supply_walked at (rows rs) sight names = rows_walked at rs sight names
supply_walked at (rows_of q) sight names = query_walked at q sight names

assignments_walked : {N : Type 0} (at : Visits N) (as' : List (Target × Tree)) (sight : Sight) (names : N) → nodes_visited at (nodes_of_assignments as' sight) names ≡ of_assignments at as' names
assignments_walked at [] sight names = refl
assignments_walked at (a ∷ as') sight names =
    joined at (nodes_of_tree a.1 sight) (nodes_of_assignments as' sight) names _ _ (tree_walked at a.1 sight names) (assignments_walked at as' sight (of_tree at a.1 names))

declared_walked : {N : Type 0} (at : Visits N) (ds : List Declared) (sight : Sight) (names : N) → nodes_visited at (nodes_of_declared ds sight) names ≡ of_declared at ds names
declared_walked at [] sight names = refl
declared_walked at (d ∷ ds) sight names =
    joined at (nodes_of_part d.preset sight) (nodes_of_declared ds sight) names _ _ (part_walked at d.preset sight names) (declared_walked at ds sight (of_part at d.preset names))

mutual
  pub statement_walked : {N : Type 0} (at : Visits N) (s : Statement) (names : N) → nodes_visited at (nodes_of s) names ≡ of_statement at s names
  statement_walked at (create_table t) names = refl
  statement_walked at (create_function p) names = refl
  statement_walked at (create_procedure p) names = refl
  statement_walked at (create_trigger t) names = refl
  statement_walked at (drop_table n) names = refl
  statement_walked at (drop_function n) names = refl
  statement_walked at (drop_procedure n) names = refl
  statement_walked at (drop_trigger n) names = refl
  statement_walked at (truncate n) names = refl
  statement_walked at (insert_into ignore t cs from us) names =
      joined at (nodes_of_supply from no_sight) (nodes_of_sets us (sight_of_update t)) (at.table t names) _ _
      (supply_walked at from no_sight (at.table t names)) (sets_walked at us (sight_of_update t) (of_supply at from (at.table t names)))
  statement_walked at (replace_into t cs from) names = supply_walked at from no_sight (at.table t names)
  statement_walked at (update_rows t ss w os l) names =
      joined at (nodes_of_sets ss (in_sight t no_sight) ++ nodes_of_part w (in_sight t no_sight) ++ nodes_of_orders os (in_sight t no_sight)) (count_nodes l) (at.table t names) _ _
      (three at (nodes_of_sets ss (in_sight t no_sight)) (nodes_of_part w (in_sight t no_sight)) (nodes_of_orders os (in_sight t no_sight)) (at.table t names) _ _ _
      (sets_walked at ss (in_sight t no_sight) (at.table t names)) (part_walked at w (in_sight t no_sight) (of_sets at ss (at.table t names)))
      (orders_walked at os (in_sight t no_sight) (of_part at w (of_sets at ss (at.table t names))))) (count_none at l _)
  statement_walked at (delete_rows t w os l) names =
      three at (nodes_of_part w (in_sight t no_sight)) (nodes_of_orders os (in_sight t no_sight)) (count_nodes l) (at.table t names) _ _ _
      (part_walked at w (in_sight t no_sight) (at.table t names)) (orders_walked at os (in_sight t no_sight) (of_part at w (at.table t names))) (count_none at l _)
  statement_walked at (select q) names = query_walked at q no_sight names
  statement_walked at (evaluate ts) names = trees_walked at ts no_sight names
  statement_walked at (set_all as') names = assignments_walked at as' no_sight names
  statement_walked at (call_procedure n ts) names = trees_walked at ts no_sight names
  statement_walked at begin names = refl
  statement_walked at commit names = refl
  statement_walked at rollback names = refl
  statement_walked at (savepoint n) names = refl
  statement_walked at (rollback_to n) names = refl
  statement_walked at (release_savepoint n) names = refl
  statement_walked at (block ds ss) names = joined at (nodes_of_declared ds no_sight) (nodes_of_steps ss) names _ _ (declared_walked at ds no_sight names) (steps_walked at ss (of_declared at ds names))
  statement_walked at (if_steps bs o) names = joined at (nodes_of_branches bs) (nodes_of_otherwise o) names _ _ (branches_walked at bs names) (otherwise_walked at o (of_branches at bs names))
  statement_walked at (while_steps c ss) names = joined at (nodes_of_tree c no_sight) (nodes_of_steps ss) names _ _ (tree_walked at c no_sight names) (steps_walked at ss (of_tree at c names))
  statement_walked at (return_value e) names = tree_walked at e no_sight names

  steps_walked : {N : Type 0} (at : Visits N) (ss : Statements) (names : N) → nodes_visited at (nodes_of_steps ss) names ≡ of_steps at ss names
  steps_walked at no_statement names = refl
  steps_walked at (statement s ss) names = joined at (nodes_of s) (nodes_of_steps ss) names _ _ (statement_walked at s names) (steps_walked at ss (of_statement at s names))

  branches_walked : {N : Type 0} (at : Visits N) (bs : Branches) (names : N) → nodes_visited at (nodes_of_branches bs) names ≡ of_branches at bs names
  branches_walked at no_branch names = refl
  branches_walked at (branch c ss bs) names =
      three at (nodes_of_tree c no_sight) (nodes_of_steps ss) (nodes_of_branches bs) names _ _ _
      (tree_walked at c no_sight names) (steps_walked at ss (of_tree at c names)) (branches_walked at bs (of_steps at ss (of_tree at c names)))

  otherwise_walked : {N : Type 0} (at : Visits N) (o : Otherwise) (names : N) → nodes_visited at (nodes_of_otherwise o) names ≡ of_otherwise at o names
  otherwise_walked at no_else names = refl
  otherwise_walked at (else_steps ss) names = steps_walked at ss names
