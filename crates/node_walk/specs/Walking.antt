-- Whether something holds of a node of a statement, asked in one walk over its tree.
use Rattle.std.specs.Prelude.{ℕ, Bool, false, ◌||◌, List, [], ◌∷◌, Option, Some, None}
use Rattle.sql_tree.specs.Tree.{Tree, literal, name, column, new_column, old_column, user_variable, system_variable, unary, binary, is_in, choice, subquery, exists, call, built_in, values_of, name_const, floor_rand}
use Rattle.sql_tree.specs.Tree.{Trees, no_tree, tree, Arms, no_arm, arm, Part, no_part, part, Query, query, Selected, items, all_columns, aggregates}
use Rattle.sql_tree.specs.Tree.{Aggregates, no_aggregate, count_all, aggregate, Origin, no_origin, from_table, Orders, no_order, order_by}
use Rattle.sql_tree.specs.Statement.{Supply, rows, rows_of, Declared}
use Rattle.sql_tree.specs.Statement.{Statement, insert_into, replace_into, update_rows, delete_rows, select, evaluate, set_all, call_procedure, block, if_steps, while_steps, return_value}
use Rattle.sql_tree.specs.Statement.{Statements, no_statement, statement, Branches, no_branch, branch, Otherwise, no_else, else_steps}
use Rattle.sql_tree.specs.declared.expressions.Count.{Count}
use Rattle.sql_tree.specs.declared.expressions.Limit.{Limit}
use Rattle.sql_tree.specs.declared.statements.Target.{Target}
use Rattle.node_walk.specs.declared.asking.Ask.{Ask}
use Rattle.node_walk.specs.Asking.{asks_built_in, asks_call, asks_limit, asks_random_number, asks_statement, asks_system_variable, asks_table}

-- LIMIT of a change, and LIMIT with its offset
abbrev pub in_count : Ask → Option Count → Bool
in_count ask None = false
in_count ask (Some c) = asks_limit ask c

abbrev pub in_limit : Ask → Option Limit → Bool
in_limit ask None = false
in_limit ask (Some l) = asks_limit ask l.count || in_count ask l.offset

abbrev mutual
  pub in_tree : Ask → Tree → Bool
  in_tree ask (literal v) = false
  in_tree ask (name n) = false
  in_tree ask (column t c) = false
  in_tree ask (new_column c) = false
  in_tree ask (old_column c) = false
  in_tree ask (user_variable n) = false
  in_tree ask (system_variable n) = asks_system_variable ask n
  in_tree ask (unary op a) = in_tree ask a
  in_tree ask (binary op a b) = in_tree ask a || in_tree ask b
  in_tree ask (is_in negated a ts) = in_tree ask a || in_trees ask ts
  in_tree ask (choice arms o) = in_arms ask arms || in_part ask o
  in_tree ask (subquery q) = in_query ask q
  in_tree ask (exists q) = in_query ask q
  in_tree ask (call n ts) = asks_call ask n || in_trees ask ts
  in_tree ask (values_of c) = false
  in_tree ask (name_const n v) = false
  in_tree ask (floor_rand a) = asks_random_number ask || in_tree ask a
  in_tree ask (built_in f ts) = asks_built_in ask f || in_trees ask ts

  pub in_trees : Ask → Trees → Bool
  in_trees ask no_tree = false
  in_trees ask (tree t ts) = in_tree ask t || in_trees ask ts

  pub in_arms : Ask → Arms → Bool
  in_arms ask no_arm = false
  in_arms ask (arm c v arms) = in_tree ask c || in_tree ask v || in_arms ask arms

  pub in_part : Ask → Part → Bool
  in_part ask no_part = false
  in_part ask (part t) = in_tree ask t

  pub in_query : Ask → Query → Bool
  in_query ask (query w o) = in_selected ask w || in_origin ask o

  pub in_selected : Ask → Selected → Bool
  in_selected ask (items ts) = in_trees ask ts
  in_selected ask all_columns = false
  in_selected ask (aggregates rest) = in_aggregates ask rest

  pub in_aggregates : Ask → Aggregates → Bool
  in_aggregates ask no_aggregate = false
  in_aggregates ask (count_all rest) = in_aggregates ask rest
  in_aggregates ask (aggregate f a rest) = in_tree ask a || in_aggregates ask rest

  pub in_origin : Ask → Origin → Bool
  in_origin ask no_origin = false
  in_origin ask (from_table t w os l) = asks_table ask t || (in_part ask w || in_orders ask os || in_limit ask l)

  pub in_orders : Ask → Orders → Bool
  in_orders ask no_order = false
  in_orders ask (order_by t descending os) = in_tree ask t || in_orders ask os

abbrev pub in_sets : Ask → List (List ℕ × Tree) → Bool
in_sets ask [] = false
in_sets ask (s ∷ ss) = in_tree ask s.1 || in_sets ask ss

abbrev pub in_rows : Ask → List Trees → Bool
in_rows ask [] = false
in_rows ask (r ∷ rs) = in_trees ask r || in_rows ask rs

abbrev pub in_supply : Ask → Supply → Bool
in_supply ask (rows rs) = in_rows ask rs
in_supply ask (rows_of q) = in_query ask q

abbrev pub in_assignments : Ask → List (Target × Tree) → Bool
in_assignments ask [] = false
in_assignments ask (a ∷ as') = in_tree ask a.1 || in_assignments ask as'

abbrev pub in_declared : Ask → List Declared → Bool
in_declared ask [] = false
in_declared ask (d ∷ ds) = in_part ask d.preset || in_declared ask ds

abbrev mutual
  -- what stands within a statement
  pub in_parts : Ask → Statement → Bool
  in_parts ask (insert_into ignore t cs from us) = in_supply ask from || in_sets ask us
  in_parts ask (replace_into t cs from) = in_supply ask from
  in_parts ask (update_rows t ss w os l) = in_sets ask ss || in_part ask w || in_orders ask os || in_count ask l
  in_parts ask (delete_rows t w os l) = in_part ask w || in_orders ask os || in_count ask l
  in_parts ask (select q) = in_query ask q
  in_parts ask (evaluate ts) = in_trees ask ts
  in_parts ask (set_all as') = in_assignments ask as'
  in_parts ask (call_procedure n ts) = in_trees ask ts
  in_parts ask (block ds ss) = in_declared ask ds || in_steps ask ss
  in_parts ask (if_steps bs o) = in_branches ask bs || in_otherwise ask o
  in_parts ask (while_steps c ss) = in_tree ask c || in_steps ask ss
  in_parts ask (return_value e) = in_tree ask e
  in_parts ask s = false

  pub in_steps : Ask → Statements → Bool
  in_steps ask no_statement = false
  in_steps ask (statement s ss) = (asks_statement ask s || in_parts ask s) || in_steps ask ss

  pub in_branches : Ask → Branches → Bool
  in_branches ask no_branch = false
  in_branches ask (branch c ss bs) = in_tree ask c || in_steps ask ss || in_branches ask bs

  pub in_otherwise : Ask → Otherwise → Bool
  in_otherwise ask no_else = false
  in_otherwise ask (else_steps ss) = in_steps ask ss

-- a statement with what stands within it
abbrev pub in_statement : Ask → Statement → Bool
in_statement ask s = asks_statement ask s || in_parts ask s
