-- The catalog checks of a statement: what its names mean, and which error comes first.
use Rattle.std.specs.Prelude.{ℕ, Bool, true, false, not, ◌&&◌, ◌||◌, ◌==◌, List, [], ◌∷◌, ◌++◌, length, flat_map, filter_map, find, Option, Some, None, is_some, is_none, unwrap_or}
use Rattle.std.specs.List.{list_any, enumerate_from}
use Rattle.std.specs.Option.{option_map, option_map_or}
use Rattle.val_types.specs.declared.definitions.ColumnDef.{ColumnDef}
use Rattle.val_types.specs.declared.definitions.TableDef.{TableDef}
use Rattle.sql_tree.specs.Tree.{Tree, Query, query, items, all_columns, aggregates, Origin, no_origin, from_table, Aggregates, no_aggregate, count_all, aggregate}
use Rattle.sql_tree.specs.Statement.{Supply, rows, rows_of}
use Rattle.sql_tree.specs.Statement.{Statement, insert_into, replace_into, update_rows, delete_rows, set_all, call_procedure}
use Rattle.sql_tree.specs.declared.expressions.Count.{Count}
use Rattle.sql_tree.specs.declared.expressions.Count.TheVariants as counts
use Rattle.sql_tree.specs.declared.statements.Target.{Target}
use Rattle.catalog_rules.specs.Names.{same_name, is_among, has_twice}
use Rattle.catalog_rules.specs.Objects.{Object, table_in, function_in, procedure_in, parameters_of, columns_of}
use Rattle.catalog_rules.specs.Bodies.{session_variables, readable_variables, has_code}
use Rattle.catalog_rules.specs.Nodes.{Sight, no_sight, Node, a_name, a_column, a_new_column, an_old_column, an_inserted_value, a_user_variable, a_system_variable, a_built_in, a_random_number, a_function_call, a_table_read, a_limit, a_statement, count_of_trees, nodes_of, nodes_of_tree, nodes_of_rows, table_read_at}

-- What a statement sees beside rows: the names of the locals in scope, and in a trigger the tables of NEW and OLD.
pub record Scope : Type 0 where
  pub locals : List (List ℕ)
  pub new_row : Option TableDef
  pub old_row : Option TableDef

-- a session's own statement sees none of it
abbrev pub session_scope : Scope
session_scope = record { locals = []; new_row = None; old_row = None }

-- an error, where something is missing
abbrev pub unless : Bool → ℕ → List ℕ
unless true code = []
unless false code = code ∷ []

-- whether a table of the catalog has a column
abbrev pub has_column : List ℕ → TableDef → Bool
has_column c definition = is_among (columns_of definition) c

abbrev pub table_has_column : List Object → List ℕ → List ℕ → Bool
table_has_column catalog c t = option_map_or (has_column c) (table_in catalog t) false

-- whether a row that is there has a column
abbrev pub row_has_column : List ℕ → Option TableDef → Bool
row_has_column c row = option_map_or (has_column c) row false

-- ---- nodes

-- a name is a local, or a column of a table in view
abbrev pub is_known_name : List Object → Scope → Sight → List ℕ → Bool
is_known_name catalog scope sight n = is_among scope.locals n || list_any (table_has_column catalog n) sight.tables

-- `t.c`: the innermost table in view of that name has the column
abbrev pub is_known_column : List Object → Sight → List ℕ → List ℕ → Bool
is_known_column catalog sight t c = option_map_or (table_has_column catalog c) (find (same_name t) sight.tables) false

-- VALUES(c): a row is to be inserted, and its table has the column
abbrev pub is_known_inserted : List Object → Sight → List ℕ → Bool
is_known_inserted catalog sight c = option_map_or (table_has_column catalog c) sight.inserted false

-- a call of a function that is there, with as many arguments as it has parameters
abbrev pub call_codes : List Object → List ℕ → ℕ → List ℕ
call_codes catalog n count = elim (function_in catalog n) [ None ↦ 1305 ∷ [] | Some p ↦ unless (length (parameters_of p) == count) 1318 ]

abbrev pub limit_codes : Scope → Count → List ℕ
limit_codes scope (counts.Number n) = []
limit_codes scope (counts.Name n) = unless (is_among scope.locals n) 1327

-- ---- statements

-- the columns that an INSERT or REPLACE names, all where it names none
abbrev pub given_columns : TableDef → Option (List (List ℕ)) → List (List ℕ)
given_columns definition names = unwrap_or names (columns_of definition)

-- a column that has to be given: NOT NULL, with no DEFAULT and not AUTO_INCREMENT
abbrev pub must_be_given : TableDef → ℕ × ColumnDef → Bool
must_be_given definition c =
    not c.1.nullable && is_none c.1.preset && not (option_map_or (λ place. place == c.0) definition.auto false)

abbrev pub is_left_out : TableDef → List (List ℕ) → ℕ × ColumnDef → Bool
is_left_out definition given c = must_be_given definition c && not (is_among given c.1.name)

abbrev pub count_of_aggregates : Aggregates → ℕ
count_of_aggregates no_aggregate = 0
count_of_aggregates (count_all rest) = ℕ.suc (count_of_aggregates rest)
count_of_aggregates (aggregate f a rest) = ℕ.suc (count_of_aggregates rest)

abbrev pub width_of_origin : List Object → Origin → Option ℕ
width_of_origin catalog no_origin = None
width_of_origin catalog (from_table t w os l) = option_map (λ (d : TableDef). length d.columns) (table_in catalog t)

-- how many values the rows of a SELECT have, None where its table is not there
abbrev pub width_of_query : List Object → Query → Option ℕ
width_of_query catalog (query (items ts) o) = Some (count_of_trees ts)
width_of_query catalog (query all_columns o) = width_of_origin catalog o
width_of_query catalog (query (aggregates rest) o) = Some (count_of_aggregates rest)

-- whether rows have as many values as columns are given
abbrev pub has_width : List Object → ℕ → Supply → Bool
has_width catalog count (rows rs) = not (list_any (λ ts. not (count_of_trees ts == count)) rs)
has_width catalog count (rows_of q) = option_map_or (λ width. width == count) (width_of_query catalog q) true

-- the tables that some nodes read
abbrev pub tables_read : List Node → List (List ℕ)
tables_read nodes = filter_map table_read_at nodes

-- whether VALUES reads the table that it puts rows into
abbrev pub reads_its_target : List ℕ → Supply → Bool
reads_its_target t (rows rs) = is_among (tables_read (nodes_of_rows rs no_sight)) t
reads_its_target t (rows_of q) = false

-- 1054 a column that is none, 1110 a column twice, 1136 another number of values, 1093, 1364 a column left out
abbrev pub columns_codes : List Object → Option (List (List ℕ)) → Supply → TableDef → List ℕ
columns_codes catalog names from definition =
    let given = given_columns definition names in
    unless (not (list_any (λ c. not (has_column c definition)) given)) 1054
    ++ unless (not (has_twice given)) 1110
    ++ unless (has_width catalog (length given) from) 1136
    ++ unless (not (reads_its_target definition.name from)) 1093
    ++ unless (not (list_any (is_left_out definition given) (enumerate_from 0 definition.columns))) 1364

-- what refuses an INSERT or REPLACE beside what its expressions name
abbrev pub insert_codes : List Object → List ℕ → Option (List (List ℕ)) → Supply → List ℕ
insert_codes catalog t names from = option_map_or (columns_codes catalog names from) (table_in catalog t) (1146 ∷ [])

-- the columns of `column = value` items are those of the table
abbrev pub set_codes : List Object → List ℕ → List (List ℕ × Tree) → List ℕ
set_codes catalog t ss = flat_map (λ (s : List ℕ × Tree). unless (table_has_column catalog s.0 t) 1054) ss

-- 1093: a subquery of UPDATE or DELETE reads the target
abbrev pub change_codes : List Object → List ℕ → Statement → List ℕ
change_codes catalog t s =
    unless (is_some (table_in catalog t)) 1146 ++ unless (not (is_among (tables_read (nodes_of s)) t)) 1093

-- what may be assigned to: a user variable, a local, a session variable, in a trigger a column of NEW
abbrev pub assigned_codes : Scope → Target × Tree → List ℕ
assigned_codes scope (Target.User n, e) = []
assigned_codes scope (Target.Plain n, e) = unless (is_among scope.locals n || is_among session_variables n) 1193
assigned_codes scope (Target.System n, e) = unless (is_among session_variables n) 1193
assigned_codes scope (Target.New c, e) = option_map_or (λ d. unless (has_column c d) 1054) scope.new_row (1193 ∷ [])

abbrev pub procedure_codes : List Object → List ℕ → ℕ → List ℕ
procedure_codes catalog n count = elim (procedure_in catalog n) [ None ↦ 1305 ∷ [] | Some p ↦ unless (length (parameters_of p) == count) 1318 ]

-- what refuses a statement by itself, beside what its expressions name
abbrev pub statement_codes : List Object → Scope → Statement → List ℕ
statement_codes catalog scope (insert_into ignore t cs from us) = insert_codes catalog t cs from ++ set_codes catalog t us
statement_codes catalog scope (replace_into t cs from) = insert_codes catalog t cs from
statement_codes catalog scope (update_rows t ss w os l) = set_codes catalog t ss ++ change_codes catalog t (update_rows t ss w os l)
statement_codes catalog scope (delete_rows t w os l) = change_codes catalog t (delete_rows t w os l)
statement_codes catalog scope (set_all as') = flat_map (assigned_codes scope) as'
statement_codes catalog scope (call_procedure n ts) = procedure_codes catalog n (count_of_trees ts)
statement_codes catalog scope s = []

-- what refuses a node
abbrev pub node_codes : List Object → Scope → Node → List ℕ
node_codes catalog scope (a_name sight n) = unless (is_known_name catalog scope sight n) 1054
node_codes catalog scope (a_column sight t c) = unless (is_known_column catalog sight t c) 1054
node_codes catalog scope (a_new_column c) = unless (row_has_column c scope.new_row) 1054
node_codes catalog scope (an_old_column c) = unless (row_has_column c scope.old_row) 1054
node_codes catalog scope (an_inserted_value sight c) = unless (is_known_inserted catalog sight c) 1054
node_codes catalog scope (a_user_variable n) = []
node_codes catalog scope (a_system_variable n) = unless (is_among readable_variables n) 1193
node_codes catalog scope (a_built_in f) = []
node_codes catalog scope a_random_number = []
node_codes catalog scope (a_function_call n count) = call_codes catalog n count
node_codes catalog scope (a_table_read t) = unless (is_some (table_in catalog t)) 1146
node_codes catalog scope (a_limit c) = limit_codes scope c
node_codes catalog scope (a_statement s) = statement_codes catalog scope s

-- ---- the first of them

-- the order in which the checks come
abbrev pub check_order : List ℕ
check_order = 1146 ∷ 1054 ∷ 1305 ∷ 1318 ∷ 1193 ∷ 1327 ∷ 1110 ∷ 1136 ∷ 1093 ∷ 1364 ∷ []

-- the error of some nodes that comes first
abbrev pub first_code : List Object → Scope → List Node → Option ℕ
first_code catalog scope nodes = find (has_code (flat_map (node_codes catalog scope) nodes)) check_order

-- what refuses a statement, and an expression of a body; None where nothing does
unfoldable pub statement_refusal : List Object → Scope → Statement → Option ℕ
statement_refusal catalog scope s = first_code catalog scope (nodes_of s)

unfoldable pub expression_refusal : List Object → Scope → Tree → Option ℕ
expression_refusal catalog scope e = first_code catalog scope (nodes_of_tree e no_sight)
