-- The checks of a statement in one walk: how early the first of their errors comes.
--
-- A rank is the place of an error in the order of checks, 10 where there is none. What is asked of the nodes as one list is
-- asked here of the trees, a part after the other; the laws say that it comes to the same.
use Rattle.std.specs.Prelude.{ℕ, suc, Bool, false, not, ◌||◌, min, cond, if◌then◌else◌, List, [], ◌∷◌, length, Option, Some, None, is_some, slice_get, ◌==◌}
use Rattle.std.specs.List.{list_any, enumerate_from}
use Rattle.std.specs.Option.{option_map_or}
use Rattle.val_types.specs.declared.definitions.TableDef.{TableDef}
use Rattle.sql_tree.specs.Tree.{Tree, literal, name, column, new_column, old_column, user_variable, system_variable, unary, binary, is_in, choice, subquery, exists, call, built_in, values_of, name_const, floor_rand}
use Rattle.sql_tree.specs.Tree.{Trees, no_tree, tree, Arms, no_arm, arm, Part, no_part, part, Query, query, Selected, items, all_columns, aggregates}
use Rattle.sql_tree.specs.Tree.{Aggregates, no_aggregate, count_all, aggregate, Origin, no_origin, from_table, Orders, no_order, order_by}
use Rattle.sql_tree.specs.Statement.{Supply, rows, rows_of, Declared}
use Rattle.sql_tree.specs.Statement.{Statement, insert_into, replace_into, update_rows, delete_rows, select, evaluate, set_all, call_procedure, block, if_steps, while_steps, return_value}
use Rattle.sql_tree.specs.Statement.{Statements, no_statement, statement, Branches, no_branch, branch, Otherwise, no_else, else_steps}
use Rattle.sql_tree.specs.declared.expressions.Limit.{Limit}
use Rattle.sql_tree.specs.declared.expressions.Count.{Count}
use Rattle.sql_tree.specs.declared.expressions.Count.TheVariants as counts
use Rattle.sql_tree.specs.declared.statements.Target.{Target}
use Rattle.catalog_rules.specs.Names.{same_name, is_among, has_twice}
use Rattle.catalog_rules.specs.Objects.{Object, table_in, function_in, procedure_in, parameters_of}
use Rattle.catalog_rules.specs.Bodies.{session_variables, readable_variables, has_code}
use Rattle.catalog_rules.specs.Nodes.{Sight, no_sight, in_sight, sight_in, sight_of_update, count_of_trees}
use Rattle.catalog_rules.specs.Checks.{Scope, check_order, is_known_name, is_known_column, is_known_inserted, row_has_column, given_columns, has_column, has_width, is_left_out, table_has_column}

-- ---- ranks

-- the place of the first code of an order that was met, the length of the order where none was
abbrev pub place_met : List ℕ → List ℕ → ℕ
place_met met [] = 0
place_met met (code ∷ codes) = if has_code met code then 0 else suc (place_met met codes)

abbrev pub rank_of : List ℕ → ℕ
rank_of met = place_met met check_order

-- no error
abbrev pub no_rank : ℕ
no_rank = 10

-- the error of a rank
abbrev pub code_of : ℕ → Option ℕ
code_of rank = slice_get check_order rank

-- a rank, unless something is there
abbrev pub rank_unless : Bool → ℕ → ℕ
rank_unless is_there rank = cond is_there no_rank rank

-- What a walk is asked: the objects, what is in scope, and the table that may not be read, where one is changed.
pub record Asked : Type 0 where
  pub catalog : List Object
  pub scope : Scope
  pub target : Option (List ℕ)

-- the same where any table may be read
abbrev pub reading : Asked → Asked
reading asked = record asked { target = None }

-- the same where a table is changed
abbrev pub changing : List ℕ → Asked → Asked
changing t asked = record asked { target = Some t }

-- ---- nodes

abbrev pub is_target : Option (List ℕ) → List ℕ → Bool
is_target None t = false
is_target (Some target) t = same_name target t

abbrev pub has_table : List Object → List ℕ → Bool
has_table catalog t = is_some (table_in catalog t)

-- a table that is read: 1146, 1093
abbrev pub read_rank : Asked → List ℕ → ℕ
read_rank asked t = min (rank_unless (has_table asked.catalog t) 0) (rank_unless (not (is_target asked.target t)) 8)

-- a call of a function: 1305, 1318
abbrev pub function_rank : Asked → List ℕ → ℕ → ℕ
function_rank asked n count = elim (function_in asked.catalog n) [ None ↦ 2 | Some p ↦ rank_unless (length (parameters_of p) == count) 3 ]

abbrev pub procedure_rank : Asked → List ℕ → ℕ → ℕ
procedure_rank asked n count = elim (procedure_in asked.catalog n) [ None ↦ 2 | Some p ↦ rank_unless (length (parameters_of p) == count) 3 ]

-- a LIMIT by a name: 1327
abbrev pub count_rank : Asked → Count → ℕ
count_rank asked (counts.Number n) = no_rank
count_rank asked (counts.Name n) = rank_unless (is_among asked.scope.locals n) 5

abbrev pub count_if_rank : Asked → Option Count → ℕ
count_if_rank asked None = no_rank
count_if_rank asked (Some c) = count_rank asked c

abbrev pub limit_rank : Asked → Option Limit → ℕ
limit_rank asked None = no_rank
limit_rank asked (Some l) = min (count_rank asked l.count) (count_if_rank asked l.offset)

-- ---- expressions

abbrev mutual
  pub tree_rank : Asked → Tree → Sight → ℕ
  tree_rank asked (literal v) sight = no_rank
  tree_rank asked (name n) sight = rank_unless (is_known_name asked.catalog asked.scope sight n) 1
  tree_rank asked (column t c) sight = rank_unless (is_known_column asked.catalog sight t c) 1
  tree_rank asked (new_column c) sight = rank_unless (row_has_column c asked.scope.new_row) 1
  tree_rank asked (old_column c) sight = rank_unless (row_has_column c asked.scope.old_row) 1
  tree_rank asked (user_variable n) sight = no_rank
  tree_rank asked (system_variable n) sight = rank_unless (is_among readable_variables n) 4
  tree_rank asked (unary op a) sight = tree_rank asked a sight
  tree_rank asked (binary op a b) sight = min (tree_rank asked a sight) (tree_rank asked b sight)
  tree_rank asked (is_in negated a ts) sight = min (tree_rank asked a sight) (trees_rank asked ts sight)
  tree_rank asked (choice arms o) sight = min (arms_rank asked arms sight) (part_rank asked o sight)
  tree_rank asked (subquery q) sight = query_rank asked q sight
  tree_rank asked (exists q) sight = query_rank asked q sight
  tree_rank asked (call n ts) sight = min (function_rank asked n (count_of_trees ts)) (trees_rank asked ts sight)
  tree_rank asked (values_of c) sight = rank_unless (is_known_inserted asked.catalog sight c) 1
  tree_rank asked (name_const n v) sight = no_rank
  tree_rank asked (floor_rand a) sight = tree_rank asked a sight
  tree_rank asked (built_in f ts) sight = trees_rank asked ts sight

  pub trees_rank : Asked → Trees → Sight → ℕ
  trees_rank asked no_tree sight = no_rank
  trees_rank asked (tree t ts) sight = min (tree_rank asked t sight) (trees_rank asked ts sight)

  pub arms_rank : Asked → Arms → Sight → ℕ
  arms_rank asked no_arm sight = no_rank
  arms_rank asked (arm c v arms) sight = min (min (tree_rank asked c sight) (tree_rank asked v sight)) (arms_rank asked arms sight)

  pub part_rank : Asked → Part → Sight → ℕ
  part_rank asked no_part sight = no_rank
  part_rank asked (part t) sight = tree_rank asked t sight

  pub query_rank : Asked → Query → Sight → ℕ
  query_rank asked (query w o) sight = min (selected_rank asked w (sight_in o sight)) (origin_rank asked o sight)

  pub selected_rank : Asked → Selected → Sight → ℕ
  selected_rank asked (items ts) sight = trees_rank asked ts sight
  selected_rank asked all_columns sight = no_rank
  selected_rank asked (aggregates rest) sight = aggregates_rank asked rest sight

  pub aggregates_rank : Asked → Aggregates → Sight → ℕ
  aggregates_rank asked no_aggregate sight = no_rank
  aggregates_rank asked (count_all rest) sight = aggregates_rank asked rest sight
  aggregates_rank asked (aggregate f a rest) sight = min (tree_rank asked a sight) (aggregates_rank asked rest sight)

  pub origin_rank : Asked → Origin → Sight → ℕ
  origin_rank asked no_origin sight = no_rank
  origin_rank asked (from_table t w os l) sight =
      min (read_rank asked t) (min (min (part_rank asked w (in_sight t sight)) (orders_rank asked os (in_sight t sight))) (limit_rank asked l))

  pub orders_rank : Asked → Orders → Sight → ℕ
  orders_rank asked no_order sight = no_rank
  orders_rank asked (order_by t descending os) sight = min (tree_rank asked t sight) (orders_rank asked os sight)

-- ---- statements

abbrev pub rows_rank : Asked → List Trees → ℕ
rows_rank asked [] = no_rank
rows_rank asked (ts ∷ rs) = min (trees_rank asked ts no_sight) (rows_rank asked rs)

-- VALUES may not read the table that is changed, a SELECT may
abbrev pub supply_rank : Asked → List ℕ → Supply → ℕ
supply_rank asked t (rows rs) = rows_rank (changing t asked) rs
supply_rank asked t (rows_of q) = query_rank asked q no_sight

-- `column = value` items: 1054 for a column that is none
abbrev pub sets_rank : Asked → List ℕ → List (List ℕ × Tree) → Sight → ℕ
sets_rank asked t [] sight = no_rank
sets_rank asked t (s ∷ ss) sight =
    min (min (rank_unless (table_has_column asked.catalog s.0 t) 1) (tree_rank asked s.1 sight)) (sets_rank asked t ss sight)

-- 1054, 1110, 1136 and 1364 of an INSERT or REPLACE
abbrev pub given_rank : Asked → Option (List (List ℕ)) → Supply → TableDef → ℕ
given_rank asked names from definition =
    let given = given_columns definition names in
    min (rank_unless (not (list_any (λ c. not (has_column c definition)) given)) 1)
    (min (rank_unless (not (has_twice given)) 6)
    (min (rank_unless (has_width asked.catalog (length given) from) 7)
    (rank_unless (not (list_any (is_left_out definition given) (enumerate_from 0 definition.columns))) 9)))

abbrev pub insert_rank : Asked → List ℕ → Option (List (List ℕ)) → Supply → ℕ
insert_rank asked t names from = option_map_or (given_rank asked names from) (table_in asked.catalog t) 0

-- an assignment: 1193, for a column of NEW 1054
abbrev pub target_rank : Asked → Target → ℕ
target_rank asked (Target.User n) = no_rank
target_rank asked (Target.Plain n) = rank_unless (is_among asked.scope.locals n || is_among session_variables n) 4
target_rank asked (Target.System n) = rank_unless (is_among session_variables n) 4
target_rank asked (Target.New c) = option_map_or (λ d. rank_unless (has_column c d) 1) asked.scope.new_row 4

abbrev pub assignments_rank : Asked → List (Target × Tree) → ℕ
assignments_rank asked [] = no_rank
assignments_rank asked (a ∷ as') = min (min (target_rank asked a.0) (tree_rank asked a.1 no_sight)) (assignments_rank asked as')

abbrev pub declared_rank : Asked → List Declared → ℕ
declared_rank asked [] = no_rank
declared_rank asked (d ∷ ds) = min (part_rank asked d.preset no_sight) (declared_rank asked ds)

-- UPDATE or DELETE of a table, WHERE, ORDER BY and LIMIT
abbrev pub changed_rank : Asked → List ℕ → Part → Orders → Option Count → ℕ
changed_rank asked t w os l =
    min (rank_unless (has_table asked.catalog t) 0)
    (min (min (part_rank (changing t asked) w (in_sight t no_sight)) (orders_rank (changing t asked) os (in_sight t no_sight))) (count_if_rank asked l))

abbrev mutual
  -- a statement, where `asked` has no target
  pub statement_rank : Asked → Statement → ℕ
  statement_rank asked (insert_into ignore t cs from us) =
      min (insert_rank asked t cs from) (min (supply_rank asked t from) (sets_rank asked t us (sight_of_update t)))
  statement_rank asked (replace_into t cs from) = min (insert_rank asked t cs from) (supply_rank asked t from)
  statement_rank asked (update_rows t ss w os l) = min (sets_rank (changing t asked) t ss (in_sight t no_sight)) (changed_rank asked t w os l)
  statement_rank asked (delete_rows t w os l) = changed_rank asked t w os l
  statement_rank asked (select q) = query_rank asked q no_sight
  statement_rank asked (evaluate ts) = trees_rank asked ts no_sight
  statement_rank asked (set_all as') = assignments_rank asked as'
  statement_rank asked (call_procedure n ts) = min (procedure_rank asked n (count_of_trees ts)) (trees_rank asked ts no_sight)
  statement_rank asked (block ds ss) = min (declared_rank asked ds) (steps_rank asked ss)
  statement_rank asked (if_steps bs o) = min (branches_rank asked bs) (otherwise_rank asked o)
  statement_rank asked (while_steps c ss) = min (tree_rank asked c no_sight) (steps_rank asked ss)
  statement_rank asked (return_value e) = tree_rank asked e no_sight
  statement_rank asked s = no_rank

  pub steps_rank : Asked → Statements → ℕ
  steps_rank asked no_statement = no_rank
  steps_rank asked (statement s ss) = min (statement_rank asked s) (steps_rank asked ss)

  pub branches_rank : Asked → Branches → ℕ
  branches_rank asked no_branch = no_rank
  branches_rank asked (branch c ss bs) = min (min (tree_rank asked c no_sight) (steps_rank asked ss)) (branches_rank asked bs)

  pub otherwise_rank : Asked → Otherwise → ℕ
  otherwise_rank asked no_else = no_rank
  otherwise_rank asked (else_steps ss) = steps_rank asked ss
