-- Which statements the parser can give.
use Rattle.std.specs.Prelude.{ℕ, zero, suc, ◌-◌, ◌^◌, Bool, true, false, not, ◌&&◌, ◌||◌, nat_le, nat_eq, pos, negsuc, int_le, length, List, [], ◌∷◌, Option, Some, None, is_none, is_some, IsTrue}
use Rattle.std.specs.List.{list_all, list_any}
use Rattle.std.specs.Cmp.Lexicographic.{pointwise}
use Rattle.val_types.specs.declared.value.Value.{Value}
use Rattle.val_types.specs.declared.value.Value.TheVariants.{Null, Int, Text}
use Rattle.sql_tree.specs.Tree.{Tree, literal, name, column, new_column, old_column, user_variable, system_variable, unary, binary, is_in, choice, subquery, exists, call, values_of, name_const, floor_rand, built_in}
use Rattle.sql_tree.specs.Tree.{Trees, no_tree, tree, Arms, no_arm, arm, Part, no_part, part, Query, query, Selected, items, all_columns, aggregates}
use Rattle.sql_tree.specs.Tree.{Aggregates, no_aggregate, count_all, aggregate, Origin, no_origin, from_table, Orders, no_order, order_by}
use Rattle.sql_tree.specs.BuiltIns.{Arity, exactly, one_or_more, arity}
use Rattle.sql_tree.specs.Statement.{Supply, rows, rows_of, Declared}
use Rattle.sql_tree.specs.Statement.{Statement, create_table, create_function, create_procedure, create_trigger, drop_table, drop_function, drop_procedure, drop_trigger, truncate, insert_into, replace_into, update_rows, delete_rows, select, evaluate, set_all, call_procedure, begin, commit, rollback, savepoint, rollback_to, release_savepoint, block, if_steps, while_steps, return_value}
use Rattle.sql_tree.specs.Statement.{Statements, no_statement, statement, Branches, no_branch, branch, Otherwise, no_else, else_steps, Program, program, Trigger, trigger}
use Rattle.sql_tree.specs.Depth.{depth_of}
use Rattle.sql_tree.specs.declared.expressions.Limit.{Limit}
use Rattle.sql_tree.specs.declared.expressions.Count.{Count}
use Rattle.sql_tree.specs.declared.statements.SqlType.{SqlType}
use Rattle.sql_tree.specs.declared.statements.CreateTable.{CreateTable}
use Rattle.sql_tree.specs.declared.statements.Column.{Column}
use Rattle.sql_tree.specs.declared.statements.UniqueKey.{UniqueKey}
use Rattle.sql_tree.specs.declared.statements.Parameter.{Parameter}
use Rattle.sql_tree.specs.declared.statements.Target.{Target}

-- names, numbers and literals

-- a byte of a name: printable ASCII, but no upper case letter, since names are folded
abbrev pub is_name_byte : ℕ → Bool
is_name_byte b = nat_le 0x20 b && nat_le b 0x7e && not (nat_le 0x41 b && nat_le b 0x5a)

-- a name has 1 to 64 bytes
abbrev pub is_name : List ℕ → Bool
is_name n = nat_le 1 (length n) && nat_le (length n) 64 && list_all is_name_byte n

-- one name or more
abbrev pub are_names : List (List ℕ) → Bool
are_names ns = nat_le 1 (length ns) && list_all is_name ns

-- names in parentheses that may be left out
abbrev pub are_names_if : Option (List (List ℕ)) → Bool
are_names_if None = true
are_names_if (Some ns) = are_names ns

-- a number without a sign is at most 9223372036854775807
abbrev pub is_number : ℕ → Bool
is_number n = nat_le n (2 ^ 63 - 1)

-- a literal is NULL, a number of 64 bits with a sign, or a text of any bytes
abbrev pub is_literal : Value → Bool
is_literal Null = true
is_literal (Int n) = int_le (negsuc (2 ^ 63 - 1)) n && int_le n (pos (2 ^ 63 - 1))
is_literal (Text bytes) = list_all (λ b. nat_le b 255) bytes

-- a literal that may be left out
abbrev pub is_literal_if : Option Value → Bool
is_literal_if None = true
is_literal_if (Some v) = is_literal v

-- a count of LIMIT
abbrev pub is_count : Count → Bool
is_count (Count.Number n) = is_number n
is_count (Count.Name n) = is_name n

-- a count that may be left out
abbrev pub is_count_if : Option Count → Bool
is_count_if None = true
is_count_if (Some c) = is_count c

-- a LIMIT that may be left out
abbrev pub is_limit_if : Option Limit → Bool
is_limit_if None = true
is_limit_if (Some l) = is_count l.count && is_count_if l.offset

-- a type
abbrev pub is_type : SqlType → Bool
is_type SqlType.Int = true
is_type SqlType.BigInt = true
is_type (SqlType.Varchar n) = is_number n

-- a type that may be left out
abbrev pub is_type_if : Option SqlType → Bool
is_type_if None = true
is_type_if (Some k) = is_type k

-- expressions and SELECTs

-- one expression or more
abbrev pub has_tree : Trees → Bool
has_tree no_tree = false
has_tree (tree t ts) = true

-- so many expressions
abbrev pub are_so_many : ℕ → Trees → Bool
are_so_many zero ts = not (has_tree ts)
are_so_many (suc n) no_tree = false
are_so_many (suc n) (tree t ts) = are_so_many n ts

-- as many expressions as a function takes
abbrev pub are_as_many : Arity → Trees → Bool
are_as_many (exactly n) ts = are_so_many n ts
are_as_many one_or_more ts = has_tree ts

-- one WHEN or more
abbrev pub has_arm : Arms → Bool
has_arm no_arm = false
has_arm (arm c v arms) = true

-- exactly one expression
abbrev pub is_one_tree : Trees → Bool
is_one_tree no_tree = false
is_one_tree (tree t no_tree) = true
is_one_tree (tree t (tree u ts)) = false

-- one aggregate or more
abbrev pub has_aggregate : Aggregates → Bool
has_aggregate no_aggregate = false
has_aggregate (count_all rest) = true
has_aggregate (aggregate f a rest) = true

-- exactly one aggregate
abbrev pub is_one_aggregate : Aggregates → Bool
is_one_aggregate no_aggregate = false
is_one_aggregate (count_all rest) = not (has_aggregate rest)
is_one_aggregate (aggregate f a rest) = not (has_aggregate rest)

-- exactly one expression or aggregate, and not `*`
abbrev pub gives_one : Query → Bool
gives_one (query (items ts) o) = is_one_tree ts
gives_one (query all_columns o) = false
gives_one (query (aggregates rest) o) = is_one_aggregate rest

-- one item of ORDER BY or more
abbrev pub has_order : Orders → Bool
has_order no_order = false
has_order (order_by t descending os) = true

-- a table is named
abbrev pub has_origin : Origin → Bool
has_origin no_origin = false
has_origin (from_table t w os l) = true

-- a table is named, with neither ORDER BY nor LIMIT
abbrev pub is_unordered : Origin → Bool
is_unordered no_origin = false
is_unordered (from_table t w os l) = not (has_order os) && is_none l

-- `*` needs a table, and aggregates need one with neither ORDER BY nor LIMIT
abbrev pub goes_with_origin : Query → Bool
goes_with_origin (query (items ts) o) = true
goes_with_origin (query all_columns o) = has_origin o
goes_with_origin (query (aggregates rest) o) = is_unordered o

abbrev mutual
  -- an expression
  pub is_well_tree : Tree → Bool
  is_well_tree (literal v) = is_literal v
  is_well_tree (name n) = is_name n
  is_well_tree (column t c) = is_name t && is_name c
  is_well_tree (new_column c) = is_name c
  is_well_tree (old_column c) = is_name c
  is_well_tree (user_variable n) = is_name n
  is_well_tree (system_variable n) = is_name n
  is_well_tree (unary op a) = is_well_tree a
  is_well_tree (binary op a b) = is_well_tree a && is_well_tree b
  is_well_tree (is_in negated a ts) = is_well_tree a && has_tree ts && are_well_trees ts
  is_well_tree (choice arms o) = has_arm arms && are_well_arms arms && is_well_part o
  is_well_tree (subquery q) = gives_one q && is_well_query q
  is_well_tree (exists q) = is_well_query q
  is_well_tree (call n ts) = is_name n && are_well_trees ts
  is_well_tree (values_of c) = is_name c
  is_well_tree (name_const n v) = is_literal (Text n) && is_literal v
  is_well_tree (floor_rand a) = is_well_tree a
  is_well_tree (built_in f ts) = are_as_many (arity f) ts && are_well_trees ts

  -- expressions, none too
  pub are_well_trees : Trees → Bool
  are_well_trees no_tree = true
  are_well_trees (tree t ts) = is_well_tree t && are_well_trees ts

  -- WHENs, none too
  pub are_well_arms : Arms → Bool
  are_well_arms no_arm = true
  are_well_arms (arm c v arms) = is_well_tree c && is_well_tree v && are_well_arms arms

  -- an expression that may be left out
  pub is_well_part : Part → Bool
  is_well_part no_part = true
  is_well_part (part t) = is_well_tree t

  -- a SELECT
  pub is_well_query : Query → Bool
  is_well_query (query w o) = goes_with_origin (query w o) && is_well_selected w && is_well_origin o

  -- what a SELECT gives
  pub is_well_selected : Selected → Bool
  is_well_selected (items ts) = has_tree ts && are_well_trees ts
  is_well_selected all_columns = true
  is_well_selected (aggregates rest) = has_aggregate rest && are_well_aggregates rest

  -- aggregates, none too
  pub are_well_aggregates : Aggregates → Bool
  are_well_aggregates no_aggregate = true
  are_well_aggregates (count_all rest) = are_well_aggregates rest
  are_well_aggregates (aggregate f a rest) = is_well_tree a && are_well_aggregates rest

  -- FROM with what follows it
  pub is_well_origin : Origin → Bool
  is_well_origin no_origin = true
  is_well_origin (from_table t w os l) = is_name t && is_well_part w && are_well_orders os && is_limit_if l

  -- the items of ORDER BY, none too
  pub are_well_orders : Orders → Bool
  are_well_orders no_order = true
  are_well_orders (order_by t descending os) = is_well_tree t && are_well_orders os

-- the parts of statements that hold no statement

-- one item or more
abbrev pub has_item : {A : Type 0} → List A → Bool
has_item [] = false
has_item (x ∷ xs) = true

-- a row of VALUES: one expression or more
abbrev pub is_well_row : Trees → Bool
is_well_row ts = has_tree ts && are_well_trees ts

-- what INSERT and REPLACE put in
abbrev pub is_well_supply : Supply → Bool
is_well_supply (rows rs) = has_item rs && list_all is_well_row rs
is_well_supply (rows_of q) = is_well_query q

-- `column = value`
abbrev pub is_well_set : List ℕ × Tree → Bool
is_well_set s = is_name s.0 && is_well_tree s.1

-- what an assignment writes
abbrev pub is_target : Target → Bool
is_target (Target.User n) = is_name n
is_target (Target.Plain n) = is_name n
is_target (Target.System n) = is_name n
is_target (Target.New n) = is_name n

-- an assignment
abbrev pub is_well_assignment : Target × Tree → Bool
is_well_assignment a = is_target a.0 && is_well_tree a.1

-- DECLARE, of one name or more
abbrev pub is_well_declaration : Declared → Bool
is_well_declaration d = are_names d.names && is_type d.kind && is_well_part d.preset

-- a name stands in the primary key
abbrev pub is_in_key : Option (List (List ℕ)) → List ℕ → Bool
is_in_key None n = false
is_in_key (Some ns) n = list_any (λ m. pointwise nat_eq m n) ns

-- a column, which is NOT NULL where the primary key has it
abbrev pub is_column : Option (List (List ℕ)) → Column → Bool
is_column key c = is_name c.name && is_type c.kind && is_literal_if c.preset && not (c.nullable && is_in_key key c.name)

-- a unique key
abbrev pub is_unique : UniqueKey → Bool
is_unique k = is_name k.name && are_names k.columns

-- CREATE TABLE names a column or a key
abbrev pub has_table_part : CreateTable → Bool
has_table_part t = nat_le 1 (length t.columns) || is_some t.primary || nat_le 1 (length t.uniques)

-- a table's definition
abbrev pub is_table : CreateTable → Bool
is_table t = is_name t.name && has_table_part t && list_all (is_column t.primary) t.columns && are_names_if t.primary && list_all is_unique t.uniques

-- a parameter
abbrev pub is_parameter : Parameter → Bool
is_parameter p = is_name p.name && is_type p.kind

-- statements

-- one statement or more
abbrev pub has_statement : Statements → Bool
has_statement no_statement = false
has_statement (statement s ss) = true

-- one condition of an IF or more
abbrev pub has_branch : Branches → Bool
has_branch no_branch = false
has_branch (branch c ss bs) = true

-- a stored function has the type of its result, and a procedure none
abbrev pub has_result : Program → Bool
has_result (program n ps k body) = is_some k

abbrev mutual
  -- a statement inside a stored program: any but BEGIN, whose text begins a block there
  pub is_well_step : Statement → Bool
  is_well_step (create_table t) = is_table t
  is_well_step (create_function p) = has_result p && is_well_program p
  is_well_step (create_procedure p) = not (has_result p) && is_well_program p
  is_well_step (create_trigger t) = is_well_trigger t
  is_well_step (drop_table n) = is_name n
  is_well_step (drop_function n) = is_name n
  is_well_step (drop_procedure n) = is_name n
  is_well_step (drop_trigger n) = is_name n
  is_well_step (truncate n) = is_name n
  is_well_step (insert_into ignore t cs from us) = is_name t && are_names_if cs && is_well_supply from && list_all is_well_set us
  is_well_step (replace_into t cs from) = is_name t && are_names_if cs && is_well_supply from
  is_well_step (update_rows t ss w os l) = is_name t && has_item ss && list_all is_well_set ss && is_well_part w && are_well_orders os && is_count_if l
  is_well_step (delete_rows t w os l) = is_name t && is_well_part w && are_well_orders os && is_count_if l
  is_well_step (select q) = is_well_query q
  is_well_step (evaluate ts) = has_tree ts && are_well_trees ts
  is_well_step (set_all as') = has_item as' && list_all is_well_assignment as'
  is_well_step (call_procedure n ts) = is_name n && are_well_trees ts
  is_well_step begin = false
  is_well_step commit = true
  is_well_step rollback = true
  is_well_step (savepoint n) = is_name n
  is_well_step (rollback_to n) = is_name n
  is_well_step (release_savepoint n) = is_name n
  is_well_step (block ds ss) = list_all is_well_declaration ds && are_well_steps ss
  is_well_step (if_steps bs o) = has_branch bs && are_well_branches bs && is_well_otherwise o
  is_well_step (while_steps c ss) = is_well_tree c && has_statement ss && are_well_steps ss
  is_well_step (return_value t) = is_well_tree t

  -- steps, none too
  pub are_well_steps : Statements → Bool
  are_well_steps no_statement = true
  are_well_steps (statement s ss) = is_well_step s && are_well_steps ss

  -- the conditions of an IF, none too, each with one step or more
  pub are_well_branches : Branches → Bool
  are_well_branches no_branch = true
  are_well_branches (branch c ss bs) = is_well_tree c && has_statement ss && are_well_steps ss && are_well_branches bs

  -- one step or more behind ELSE, where it stands
  pub is_well_otherwise : Otherwise → Bool
  is_well_otherwise no_else = true
  is_well_otherwise (else_steps ss) = has_statement ss && are_well_steps ss

  -- a stored function or procedure
  pub is_well_program : Program → Bool
  is_well_program (program n ps k body) = is_name n && list_all is_parameter ps && is_type_if k && is_well_step body

  -- a trigger
  pub is_well_trigger : Trigger → Bool
  is_well_trigger (trigger n time event t body) = is_name n && is_name t && is_well_step body

-- BEGIN or START TRANSACTION
abbrev pub is_begin : Statement → Bool
is_begin begin = true
is_begin _ = false

-- a block, IF, WHILE and RETURN stand in stored programs alone
abbrev pub stands_alone : Statement → Bool
stands_alone (block ds ss) = false
stands_alone (if_steps bs o) = false
stands_alone (while_steps c ss) = false
stands_alone (return_value t) = false
stands_alone _ = true

-- a statement that the grammar can give for a whole text, however deep it is
abbrev pub is_whole : Statement → Bool
is_whole s = is_begin s || (stands_alone s && is_well_step s)

-- what the parser can give: such a statement, at most 200 deep
abbrev pub is_well : Statement → Bool
is_well s = is_whole s && nat_le (depth_of s) 200

abbrev pub IsWell : Statement → Type 0
IsWell s = IsTrue (is_well s)
