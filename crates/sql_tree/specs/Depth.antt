-- How deep a statement is: a literal, a name and NAME_CONST have the depth 1, every other node one more than its deepest part.
--
-- Parentheses, order items, assignments, WHENs, DECLAREs, rows of VALUES, types, names beside expressions and LIMITs are no nodes.
use Rattle.std.specs.Prelude.{ℕ, suc, max, List, [], ◌∷◌}
use Rattle.sql_tree.specs.Tree.{Tree, literal, name, column, new_column, old_column, user_variable, system_variable, unary, binary, is_in, choice, subquery, exists, call, values_of, name_const, floor_rand, built_in}
use Rattle.sql_tree.specs.Tree.{Trees, no_tree, tree, Arms, no_arm, arm, Part, no_part, part, Query, query, Selected, items, all_columns, aggregates}
use Rattle.sql_tree.specs.Tree.{Aggregates, no_aggregate, count_all, aggregate, Origin, no_origin, from_table, Orders, no_order, order_by}
use Rattle.sql_tree.specs.Statement.{Supply, rows, rows_of, Declared}
use Rattle.sql_tree.specs.Statement.{Statement, create_table, create_function, create_procedure, create_trigger, drop_table, drop_function, drop_procedure, drop_trigger, truncate, insert_into, replace_into, update_rows, delete_rows, select, evaluate, set_all, call_procedure, begin, commit, rollback, savepoint, rollback_to, release_savepoint, block, if_steps, while_steps, return_value}
use Rattle.sql_tree.specs.declared.statements.Target.{Target}
use Rattle.sql_tree.specs.Statement.{Statements, no_statement, statement, Branches, no_branch, branch, Otherwise, no_else, else_steps, Program, program, Trigger, trigger}

abbrev mutual
  -- how deep an expression is; a subquery is its SELECT, since parentheses add nothing
  pub depth_of_tree : Tree → ℕ
  depth_of_tree (literal v) = 1
  depth_of_tree (name n) = 1
  depth_of_tree (column t c) = 1
  depth_of_tree (new_column c) = 1
  depth_of_tree (old_column c) = 1
  depth_of_tree (user_variable n) = 1
  depth_of_tree (system_variable n) = 1
  depth_of_tree (unary op a) = suc (depth_of_tree a)
  depth_of_tree (binary op a b) = suc (max (depth_of_tree a) (depth_of_tree b))
  depth_of_tree (is_in negated a ts) = suc (max (depth_of_tree a) (depth_of_trees ts))
  depth_of_tree (choice arms o) = suc (max (depth_of_arms arms) (depth_of_part o))
  depth_of_tree (subquery q) = depth_of_query q
  depth_of_tree (exists q) = suc (depth_of_query q)
  depth_of_tree (call n ts) = suc (depth_of_trees ts)
  depth_of_tree (values_of c) = 1
  depth_of_tree (name_const n v) = 1
  depth_of_tree (floor_rand a) = suc (depth_of_tree a)
  depth_of_tree (built_in f ts) = suc (depth_of_trees ts)

  -- the deepest of some expressions
  pub depth_of_trees : Trees → ℕ
  depth_of_trees no_tree = 0
  depth_of_trees (tree t ts) = max (depth_of_tree t) (depth_of_trees ts)

  -- the deepest condition or value of a CASE
  pub depth_of_arms : Arms → ℕ
  depth_of_arms no_arm = 0
  depth_of_arms (arm c v arms) = max (max (depth_of_tree c) (depth_of_tree v)) (depth_of_arms arms)

  -- how deep an expression is that may be left out
  pub depth_of_part : Part → ℕ
  depth_of_part no_part = 0
  depth_of_part (part t) = depth_of_tree t

  -- how deep a SELECT is
  pub depth_of_query : Query → ℕ
  depth_of_query (query w o) = suc (max (depth_of_selected w) (depth_of_origin o))

  -- the deepest of what a SELECT gives; `*` is no node
  pub depth_of_selected : Selected → ℕ
  depth_of_selected (items ts) = depth_of_trees ts
  depth_of_selected all_columns = 0
  depth_of_selected (aggregates rest) = depth_of_aggregates rest

  -- the deepest of some aggregates
  pub depth_of_aggregates : Aggregates → ℕ
  depth_of_aggregates no_aggregate = 0
  depth_of_aggregates (count_all rest) = max 1 (depth_of_aggregates rest)
  depth_of_aggregates (aggregate f a rest) = max (suc (depth_of_tree a)) (depth_of_aggregates rest)

  -- the deepest expression of WHERE and ORDER BY
  pub depth_of_origin : Origin → ℕ
  depth_of_origin no_origin = 0
  depth_of_origin (from_table t w os l) = max (depth_of_part w) (depth_of_orders os)

  -- the deepest expression of ORDER BY
  pub depth_of_orders : Orders → ℕ
  depth_of_orders no_order = 0
  depth_of_orders (order_by t descending os) = max (depth_of_tree t) (depth_of_orders os)

-- the greatest depth in a list
abbrev pub deepest : {A : Type 0} → (A → ℕ) → List A → ℕ
deepest depth [] = 0
deepest depth (x ∷ xs) = max (depth x) (deepest depth xs)

-- the deepest expression of VALUES
abbrev pub depth_of_rows : List Trees → ℕ
depth_of_rows rs = deepest depth_of_trees rs

-- the deepest of what INSERT and REPLACE put in
abbrev pub depth_of_supply : Supply → ℕ
depth_of_supply (rows rs) = depth_of_rows rs
depth_of_supply (rows_of q) = depth_of_query q

-- how deep the value is that something gets
abbrev pub depth_of_value : {A : Type 0} → A × Tree → ℕ
depth_of_value x = depth_of_tree x.1

-- the deepest value of `column = value` items
abbrev pub depth_of_sets : List (List ℕ × Tree) → ℕ
depth_of_sets ss = deepest depth_of_value ss

-- the deepest value of SET
abbrev pub depth_of_assignments : List (Target × Tree) → ℕ
depth_of_assignments as' = deepest depth_of_value as'

-- how deep the DEFAULT of a DECLARE is
abbrev pub depth_of_declared : Declared → ℕ
depth_of_declared d = depth_of_part d.preset

-- the deepest DEFAULT of DECLAREs
abbrev pub depth_of_declarations : List Declared → ℕ
depth_of_declarations ds = deepest depth_of_declared ds

abbrev mutual
  -- how deep a statement is; the statement SELECT is its SELECT
  pub depth_of : Statement → ℕ
  depth_of (create_table t) = 1
  depth_of (create_function p) = suc (depth_of_program p)
  depth_of (create_procedure p) = suc (depth_of_program p)
  depth_of (create_trigger t) = suc (depth_of_trigger t)
  depth_of (drop_table n) = 1
  depth_of (drop_function n) = 1
  depth_of (drop_procedure n) = 1
  depth_of (drop_trigger n) = 1
  depth_of (truncate n) = 1
  depth_of (insert_into ignore t cs from us) = suc (max (depth_of_supply from) (depth_of_sets us))
  depth_of (replace_into t cs from) = suc (depth_of_supply from)
  depth_of (update_rows t ss w os l) = suc (max (depth_of_sets ss) (max (depth_of_part w) (depth_of_orders os)))
  depth_of (delete_rows t w os l) = suc (max (depth_of_part w) (depth_of_orders os))
  depth_of (select q) = depth_of_query q
  depth_of (evaluate ts) = suc (depth_of_trees ts)
  depth_of (set_all as') = suc (depth_of_assignments as')
  depth_of (call_procedure n ts) = suc (depth_of_trees ts)
  depth_of begin = 1
  depth_of commit = 1
  depth_of rollback = 1
  depth_of (savepoint n) = 1
  depth_of (rollback_to n) = 1
  depth_of (release_savepoint n) = 1
  depth_of (block ds ss) = suc (max (depth_of_declarations ds) (depth_of_statements ss))
  depth_of (if_steps bs o) = suc (max (depth_of_branches bs) (depth_of_otherwise o))
  depth_of (while_steps c ss) = suc (max (depth_of_tree c) (depth_of_statements ss))
  depth_of (return_value t) = suc (depth_of_tree t)

  -- the deepest of some statements
  pub depth_of_statements : Statements → ℕ
  depth_of_statements no_statement = 0
  depth_of_statements (statement s ss) = max (depth_of s) (depth_of_statements ss)

  -- the deepest condition or step of an IF
  pub depth_of_branches : Branches → ℕ
  depth_of_branches no_branch = 0
  depth_of_branches (branch c ss bs) = max (max (depth_of_tree c) (depth_of_statements ss)) (depth_of_branches bs)

  -- the deepest step behind ELSE
  pub depth_of_otherwise : Otherwise → ℕ
  depth_of_otherwise no_else = 0
  depth_of_otherwise (else_steps ss) = depth_of_statements ss

  -- how deep the body of a stored function or procedure is
  pub depth_of_program : Program → ℕ
  depth_of_program (program n ps k body) = depth_of body

  -- how deep the body of a trigger is
  pub depth_of_trigger : Trigger → ℕ
  depth_of_trigger (trigger n time event t body) = depth_of body
