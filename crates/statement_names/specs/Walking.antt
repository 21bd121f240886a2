-- What a visitor makes of the names in a statement, in one walk over its tree.
use Rattle.std.specs.Prelude.{ℕ, List, [], ◌∷◌}
use Rattle.sql_tree.specs.Tree.{Tree, literal, name, column, new_column, old_column, user_variable, system_variable, unary, binary, is_in, choice, subquery, exists, call, built_in, values_of, name_const, floor_rand}
use Rattle.sql_tree.specs.Tree.{Trees, no_tree, tree, Arms, no_arm, arm, Part, no_part, part, Query, query, Selected, items, all_columns, aggregates}
use Rattle.sql_tree.specs.Tree.{Aggregates, no_aggregate, count_all, aggregate, Origin, no_origin, from_table, Orders, no_order, order_by}
use Rattle.sql_tree.specs.Statement.{Supply, rows, rows_of, Declared}
use Rattle.sql_tree.specs.Statement.{Statement, insert_into, replace_into, update_rows, delete_rows, select, evaluate, set_all, call_procedure, block, if_steps, while_steps, return_value}
use Rattle.sql_tree.specs.Statement.{Statements, no_statement, statement, Branches, no_branch, branch, Otherwise, no_else, else_steps}
use Rattle.sql_tree.specs.declared.statements.Target.{Target}
use Rattle.statement_names.specs.Visiting.{Visits}

abbrev mutual
  pub of_tree : {N : Type 0} → Visits N → Tree → N → N
  of_tree at (literal v) names = names
  of_tree at (name n) names = names
  of_tree at (column t c) names = names
  of_tree at (new_column c) names = names
  of_tree at (old_column c) names = names
  of_tree at (user_variable n) names = at.variable n names
  of_tree at (system_variable n) names = names
  of_tree at (unary op a) names = of_tree at a names
  of_tree at (binary op a b) names = of_tree at b (of_tree at a names)
  of_tree at (is_in negated a ts) names = of_trees at ts (of_tree at a names)
  of_tree at (choice arms o) names = of_part at o (of_arms at arms names)
  of_tree at (subquery q) names = of_query at q names
  of_tree at (exists q) names = of_query at q names
  of_tree at (call n ts) names = of_trees at ts names
  of_tree at (values_of c) names = names
  of_tree at (name_const n v) names = names
  of_tree at (floor_rand a) names = of_tree at a names
  of_tree at (built_in f ts) names = of_trees at ts names

  pub of_trees : {N : Type 0} → Visits N → Trees → N → N
  of_trees at no_tree names = names
  of_trees at (tree t ts) names = of_trees at ts (of_tree at t names)

  pub of_arms : {N : Type 0} → Visits N → Arms → N → N
  of_arms at no_arm names = names
  of_arms at (arm c v arms) names = of_arms at arms (of_tree at v (of_tree at c names))

  pub of_part : {N : Type 0} → Visits N → Part → N → N
  of_part at no_part names = names
  of_part at (part t) names = of_tree at t names

  pub of_query : {N : Type 0} → Visits N → Query → N → N
  of_query at (query w o) names = of_origin at o (of_selected at w names)

  pub of_selected : {N : Type 0} → Visits N → Selected → N → N
  of_selected at (items ts) names = of_trees at ts names
  of_selected at all_columns names = names
  of_selected at (aggregates rest) names = of_aggregates at rest names

  pub of_aggregates : {N : Type 0} → Visits N → Aggregates → N → N
  of_aggregates at no_aggregate names = names
  of_aggregates at (count_all rest) names = of_aggregates at rest names
  of_aggregates at (aggregate f a rest) names = of_aggregates at rest (of_tree at a names)

  pub of_origin : {N : Type 0} → Visits N → Origin → N → N
  of_origin at no_origin names = names
  of_origin at (from_table t w os l) names = of_orders at os (of_part at w (at.table t names))

  pub of_orders : {N : Type 0} → Visits N → Orders → N → N
  of_orders at no_order names = names
  of_orders at (order_by t descending os) names = of_orders at os (of_tree at t names)

abbrev pub of_sets : {N : Type 0} → Visits N → List (List ℕ × Tree) → N → N
of_sets at [] names = names
of_sets at (s ∷ ss) names = of_sets at ss (of_tree at s.1 names)

abbrev pub of_rows : {N : Type 0} → Visits N → List Trees → N → N
of_rows at [] names = names
of_rows at (r ∷ rs) names = of_rows at rs (of_trees at r names)

abbrev pub of_supply : {N : Type 0} → Visits N → Supply → N → N
of_supply at (rows rs) names = of_rows at rs names
of_supply at (rows_of q) names = of_query at q names

abbrev pub of_assignments : {N : Type 0} → Visits N → List (Target × Tree) → N → N
of_assignments at [] names = names
of_assignments at (a ∷ as') names = of_assignments at as' (of_tree at a.1 names)

abbrev pub of_declared : {N : Type 0} → Visits N → List Declared → N → N
of_declared at [] names = names
of_declared at (d ∷ ds) names = of_declared at ds (of_part at d.preset names)

abbrev mutual
  pub of_statement : {N : Type 0} → Visits N → Statement → N → N
  of_statement at (insert_into ignore t cs from us) names = of_sets at us (of_supply at from (at.table t names))
  of_statement at (replace_into t cs from) names = of_supply at from (at.table t names)
  of_statement at (update_rows t ss w os l) names = of_orders at os (of_part at w (of_sets at ss (at.table t names)))
  of_statement at (delete_rows t w os l) names = of_orders at os (of_part at w (at.table t names))
  of_statement at (select q) names = of_query at q names
  of_statement at (evaluate ts) names = of_trees at ts names
  of_statement at (set_all as') names = of_assignments at as' names
  of_statement at (call_procedure n ts) names = of_trees at ts names
  of_statement at (block ds ss) names = of_steps at ss (of_declared at ds names)
  of_statement at (if_steps bs o) names = of_otherwise at o (of_branches at bs names)
  of_statement at (while_steps c ss) names = of_steps at ss (of_tree at c names)
  of_statement at (return_value e) names = of_tree at e names
  of_statement at s names = names

  pub of_steps : {N : Type 0} → Visits N → Statements → N → N
  of_steps at no_statement names = names
  of_steps at (statement s ss) names = of_steps at ss (of_statement at s names)

  pub of_branches : {N : Type 0} → Visits N → Branches → N → N
  of_branches at no_branch names = names
  of_branches at (branch c ss bs) names = of_branches at bs (of_steps at ss (of_tree at c names))

  pub of_otherwise : {N : Type 0} → Visits N → Otherwise → N → N
  of_otherwise at no_else names = names
  of_otherwise at (else_steps ss) names = of_steps at ss names
