-- The nodes of expressions and statements as one list: each name, variable, call, table read and LIMIT, in the order of the text.
--
-- What is asked of all that a statement names or reaches is asked of this list.
use Rattle.std.specs.Prelude.{ℕ, suc, List, [], ◌∷◌, ◌++◌, flat_map, Option, Some, None}
use Rattle.std.specs.Option.{option_map_or}
use Rattle.val_types.specs.declared.ops.Func.{Func}
use Rattle.sql_tree.specs.Tree.{Tree, literal, name, column, new_column, old_column, user_variable, system_variable, unary, binary, is_in, choice, subquery, exists, call, built_in, values_of, name_const, floor_rand}
use Rattle.sql_tree.specs.Tree.{Trees, no_tree, tree, Arms, no_arm, arm, Part, no_part, part, Query, query, Selected, items, all_columns, aggregates}
use Rattle.sql_tree.specs.Tree.{Aggregates, no_aggregate, count_all, aggregate, Origin, no_origin, from_table, Orders, no_order, order_by}
use Rattle.sql_tree.specs.Statement.{Supply, rows, rows_of, Declared}
use Rattle.sql_tree.specs.Statement.{Statement, insert_into, replace_into, update_rows, delete_rows, select, evaluate, set_all, call_procedure, block, if_steps, while_steps, return_value}
use Rattle.sql_tree.specs.Statement.{Statements, no_statement, statement, Branches, no_branch, branch, Otherwise, no_else, else_steps}
use Rattle.sql_tree.specs.declared.expressions.Limit.{Limit}
use Rattle.sql_tree.specs.declared.expressions.Count.{Count}
use Rattle.sql_tree.specs.declared.statements.Target.{Target}

-- What an expression sees of rows: the tables whose rows are in view, the innermost first, and the table whose row was to
-- be inserted, behind ON DUPLICATE KEY UPDATE.
pub record Sight : Type 0 where
  pub tables : List (List ℕ)
  pub inserted : Option (List ℕ)

-- no row in view
abbrev pub no_sight : Sight
no_sight = record { tables = []; inserted = None }

-- a row of one more table in view
abbrev pub in_sight : List ℕ → Sight → Sight
in_sight t sight = record { tables = t ∷ sight.tables; inserted = sight.inserted }

-- a node, with what it sees where that matters
pub data Node : Type 0 where
  a_name : Sight → List ℕ → Node
  a_column : Sight → List ℕ → List ℕ → Node
  a_new_column : List ℕ → Node
  an_old_column : List ℕ → Node
  an_inserted_value : Sight → List ℕ → Node
  a_user_variable : List ℕ → Node
  a_system_variable : List ℕ → Node
  a_built_in : Func → Node
  a_random_number : Node
  a_function_call : List ℕ → ℕ → Node
  a_table_read : List ℕ → Node
  a_limit : Count → Node
  a_statement : Statement → Node

abbrev pub count_of_trees : Trees → ℕ
count_of_trees no_tree = 0
count_of_trees (tree t ts) = suc (count_of_trees ts)

-- LIMIT with its offset
abbrev pub limit_nodes : Option Limit → List Node
limit_nodes None = []
limit_nodes (Some l) = a_limit l.count ∷ option_map_or (λ c. a_limit c ∷ []) l.offset []

-- LIMIT of a change
abbrev pub count_nodes : Option Count → List Node
count_nodes None = []
count_nodes (Some c) = a_limit c ∷ []

-- what a SELECT from a table sees inside
abbrev pub sight_in : Origin → Sight → Sight
sight_in no_origin sight = sight
sight_in (from_table t w os l) sight = in_sight t sight

abbrev mutual
  -- the nodes of an expression
  pub nodes_of_tree : Tree → Sight → List Node
  nodes_of_tree (literal v) sight = []
  nodes_of_tree (name n) sight = a_name sight n ∷ []
  nodes_of_tree (column t c) sight = a_column sight t c ∷ []
  nodes_of_tree (new_column c) sight = a_new_column c ∷ []
  nodes_of_tree (old_column c) sight = an_old_column c ∷ []
  nodes_of_tree (user_variable n) sight = a_user_variable n ∷ []
  nodes_of_tree (system_variable n) sight = a_system_variable n ∷ []
  nodes_of_tree (unary op a) sight = nodes_of_tree a sight
  nodes_of_tree (binary op a b) sight = nodes_of_tree a sight ++ nodes_of_tree b sight
  nodes_of_tree (is_in negated a ts) sight = nodes_of_tree a sight ++ nodes_of_trees ts sight
  nodes_of_tree (choice arms o) sight = nodes_of_arms arms sight ++ nodes_of_part o sight
  nodes_of_tree (subquery q) sight = nodes_of_query q sight
  nodes_of_tree (exists q) sight = nodes_of_query q sight
  nodes_of_tree (call n ts) sight = a_function_call n (count_of_trees ts) ∷ nodes_of_trees ts sight
  nodes_of_tree (values_of c) sight = an_inserted_value sight c ∷ []
  nodes_of_tree (name_const n v) sight = []
  nodes_of_tree (floor_rand a) sight = a_random_number ∷ nodes_of_tree a sight
  nodes_of_tree (built_in f ts) sight = a_built_in f ∷ nodes_of_trees ts sight

  pub nodes_of_trees : Trees → Sight → List Node
  nodes_of_trees no_tree sight = []
  nodes_of_trees (tree t ts) sight = nodes_of_tree t sight ++ nodes_of_trees ts sight

  pub nodes_of_arms : Arms → Sight → List Node
  nodes_of_arms no_arm sight = []
  nodes_of_arms (arm c v arms) sight = nodes_of_tree c sight ++ nodes_of_tree v sight ++ nodes_of_arms arms sight

  pub nodes_of_part : Part → Sight → List Node
  nodes_of_part no_part sight = []
  nodes_of_part (part t) sight = nodes_of_tree t sight

  -- the nodes of a SELECT, whose items see the row of its table
  pub nodes_of_query : Query → Sight → List Node
  nodes_of_query (query w o) sight = nodes_of_selected w (sight_in o sight) ++ nodes_of_origin o sight

  pub nodes_of_selected : Selected → Sight → List Node
  nodes_of_selected (items ts) sight = nodes_of_trees ts sight
  nodes_of_selected all_columns sight = []
  nodes_of_selected (aggregates rest) sight = nodes_of_aggregates rest sight

  pub nodes_of_aggregates : Aggregates → Sight → List Node
  nodes_of_aggregates no_aggregate sight = []
  nodes_of_aggregates (count_all rest) sight = nodes_of_aggregates rest sight
  nodes_of_aggregates (aggregate f a rest) sight = nodes_of_tree a sight ++ nodes_of_aggregates rest sight

  pub nodes_of_origin : Origin → Sight → List Node
  nodes_of_origin no_origin sight = []
  nodes_of_origin (from_table t w os l) sight =
      a_table_read t ∷ nodes_of_part w (in_sight t sight) ++ nodes_of_orders os (in_sight t sight) ++ limit_nodes l

  pub nodes_of_orders : Orders → Sight → List Node
  nodes_of_orders no_order sight = []
  nodes_of_orders (order_by t descending os) sight = nodes_of_tree t sight ++ nodes_of_orders os sight

-- `column = value` items
abbrev pub nodes_of_sets : List (List ℕ × Tree) → Sight → List Node
nodes_of_sets ss sight = flat_map (λ (s : List ℕ × Tree). nodes_of_tree s.1 sight) ss

-- the rows of VALUES
abbrev pub nodes_of_rows : List Trees → Sight → List Node
nodes_of_rows rs sight = flat_map (λ ts. nodes_of_trees ts sight) rs

-- what INSERT and REPLACE put in
abbrev pub nodes_of_supply : Supply → Sight → List Node
nodes_of_supply (rows rs) sight = nodes_of_rows rs sight
nodes_of_supply (rows_of q) sight = nodes_of_query q sight

abbrev pub nodes_of_assignments : List (Target × Tree) → Sight → List Node
nodes_of_assignments as' sight = flat_map (λ (a : Target × Tree). nodes_of_tree a.1 sight) as'

abbrev pub nodes_of_declared : List Declared → Sight → List Node
nodes_of_declared ds sight = flat_map (λ (d : Declared). nodes_of_part d.preset sight) ds

-- what ON DUPLICATE KEY UPDATE of a table sees
abbrev pub sight_of_update : List ℕ → Sight
sight_of_update t = record { tables = t ∷ []; inserted = Some t }

abbrev mutual
  -- the nodes of a statement, itself first; of what a CREATE makes only the statement
  pub nodes_of : Statement → List Node
  nodes_of (insert_into ignore t cs from us) = a_statement (insert_into ignore t cs from us) ∷ nodes_of_supply from no_sight ++ nodes_of_sets us (sight_of_update t)
  nodes_of (replace_into t cs from) = a_statement (replace_into t cs from) ∷ nodes_of_supply from no_sight
  nodes_of (update_rows t ss w os l) =
      a_statement (update_rows t ss w os l) ∷ nodes_of_sets ss (in_sight t no_sight) ++ nodes_of_part w (in_sight t no_sight)
      ++ nodes_of_orders os (in_sight t no_sight) ++ count_nodes l
  nodes_of (delete_rows t w os l) =
      a_statement (delete_rows t w os l) ∷ nodes_of_part w (in_sight t no_sight) ++ nodes_of_orders os (in_sight t no_sight) ++ count_nodes l
  nodes_of (select q) = a_statement (select q) ∷ nodes_of_query q no_sight
  nodes_of (evaluate ts) = a_statement (evaluate ts) ∷ nodes_of_trees ts no_sight
  nodes_of (set_all as') = a_statement (set_all as') ∷ nodes_of_assignments as' no_sight
  nodes_of (call_procedure n ts) = a_statement (call_procedure n ts) ∷ nodes_of_trees ts no_sight
  nodes_of (block ds ss) = a_statement (block ds ss) ∷ nodes_of_declared ds no_sight ++ nodes_of_steps ss
  nodes_of (if_steps bs o) = a_statement (if_steps bs o) ∷ nodes_of_branches bs ++ nodes_of_otherwise o
  nodes_of (while_steps c ss) = a_statement (while_steps c ss) ∷ nodes_of_tree c no_sight ++ nodes_of_steps ss
  nodes_of (return_value e) = a_statement (return_value e) ∷ nodes_of_tree e no_sight
  nodes_of s = a_statement s ∷ []

  pub nodes_of_steps : Statements → List Node
  nodes_of_steps no_statement = []
  nodes_of_steps (statement s ss) = nodes_of s ++ nodes_of_steps ss

  pub nodes_of_branches : Branches → List Node
  nodes_of_branches no_branch = []
  nodes_of_branches (branch c ss bs) = nodes_of_tree c no_sight ++ nodes_of_steps ss ++ nodes_of_branches bs

  pub nodes_of_otherwise : Otherwise → List Node
  nodes_of_otherwise no_else = []
  nodes_of_otherwise (else_steps ss) = nodes_of_steps ss

-- ---- tables

-- the table that a node reads, or that its statement changes
abbrev pub table_changed : Statement → Option (List ℕ)
table_changed (insert_into ignore t cs from us) = Some t
table_changed (replace_into t cs from) = Some t
table_changed (update_rows t ss w os l) = Some t
table_changed (delete_rows t w os l) = Some t
table_changed s = None

abbrev pub table_at : Node → Option (List ℕ)
table_at (a_table_read t) = Some t
table_at (a_statement s) = table_changed s
table_at node = None

abbrev pub table_read_at : Node → Option (List ℕ)
table_read_at (a_table_read t) = Some t
table_read_at node = None
