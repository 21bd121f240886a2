-- Why a statement may do something else when a replica runs its text: the reasons for which it is unsafe.
use Rattle.std.specs.Prelude.{ℕ, Bool, true, false, ◌&&◌, codes, List, [], ◌∷◌, flat_map, filter, is_some}
use Rattle.std.specs.List.{list_any}
use Rattle.std.specs.Option.{option_map_or}
use Rattle.val_types.specs.declared.definitions.TableDef.{TableDef}
use Rattle.val_types.specs.declared.ops.Func.{Func}
use Rattle.sql_tree.specs.BuiltIns.{about}
use Rattle.sql_tree.specs.Statement.{Statement, insert_into, replace_into, Supply, rows, rows_of}
use Rattle.sql_meaning.specs.catalog_rules.Names.{same_name}
use Rattle.sql_meaning.specs.catalog_rules.Objects.{Object, table_in}
use Rattle.sql_meaning.specs.catalog_rules.Nodes.{Node, a_built_in, a_random_number, a_system_variable, a_limit, a_statement, nodes_of}
use Rattle.sql_reach.specs.Reach.{body_nodes, reached_programs, reached_nodes}

-- A reason for which a statement is unsafe.
pub data Reason : Type 0 where
  a_function : Reason
  a_variable : Reason
  a_limited : Reason
  a_counted_select : Reason
  a_counted_program : Reason
  two_keys : Reason
  ignored_select : Reason
  replaced_select : Reason
  updated_select : Reason

abbrev pub all_reasons : List Reason
all_reasons =
    a_function ∷ a_variable ∷ a_limited ∷ a_counted_select ∷ a_counted_program ∷ two_keys ∷ ignored_select ∷ replaced_select
    ∷ updated_select ∷ []

-- a built-in whose value may differ on a replica
abbrev pub is_unsafe_function : Func → Bool
is_unsafe_function f = (about f).is_unsafe

-- a call of one, or RAND()
abbrev pub names_unsafe_function : Node → Bool
names_unsafe_function (a_built_in f) = is_unsafe_function f
names_unsafe_function a_random_number = true
names_unsafe_function node = false

abbrev pub names_server_id : Node → Bool
names_server_id (a_system_variable n) = same_name n (codes "server_id")
names_server_id node = false

abbrev pub is_limited : Node → Bool
is_limited (a_limit c) = true
is_limited node = false

-- ---- statements

abbrev pub comes_from_select : Supply → Bool
comes_from_select (rows rs) = false
comes_from_select (rows_of q) = true

abbrev pub has_sets : {A : Type 0} → List A → Bool
has_sets [] = false
has_sets (s ∷ ss) = true

-- whether a table has an AUTO_INCREMENT column, and whether it has a unique key beside the primary one
abbrev pub is_counted : List Object → List ℕ → Bool
is_counted catalog t = option_map_or (λ (d : TableDef). is_some d.auto) (table_in catalog t) false

abbrev pub has_unique : List Object → List ℕ → Bool
has_unique catalog t = option_map_or (λ (d : TableDef). has_sets d.uniques) (table_in catalog t) false

-- INSERT or REPLACE into a table with AUTO_INCREMENT
abbrev pub inserts_counted : List Object → Node → Bool
inserts_counted catalog (a_statement (insert_into ignore t names supply sets)) = is_counted catalog t
inserts_counted catalog (a_statement (replace_into t names supply)) = is_counted catalog t
inserts_counted catalog node = false

-- the same of the rows of a SELECT
abbrev pub selects_counted : List Object → Node → Bool
selects_counted catalog (a_statement (insert_into ignore t names supply sets)) = comes_from_select supply && is_counted catalog t
selects_counted catalog (a_statement (replace_into t names supply)) = comes_from_select supply && is_counted catalog t
selects_counted catalog node = false

abbrev pub updates_by_two_keys : List Object → Node → Bool
updates_by_two_keys catalog (a_statement (insert_into ignore t names supply sets)) = has_sets sets && has_unique catalog t
updates_by_two_keys catalog node = false

abbrev pub ignores_select : Node → Bool
ignores_select (a_statement (insert_into ignore t names supply sets)) = ignore && comes_from_select supply
ignores_select node = false

abbrev pub replaces_select : Node → Bool
replaces_select (a_statement (replace_into t names supply)) = comes_from_select supply
replaces_select node = false

abbrev pub updates_select : Node → Bool
updates_select (a_statement (insert_into ignore t names supply sets)) = has_sets sets && comes_from_select supply
updates_select node = false

-- ---- the reasons of a statement

-- whether a reason holds; what a trigger or function inserts is looked for in the programs reached alone
abbrev pub reason_holds : List Object → List Node → Reason → Bool
reason_holds catalog nodes a_function = list_any names_unsafe_function (reached_nodes catalog nodes)
reason_holds catalog nodes a_variable = list_any names_server_id (reached_nodes catalog nodes)
reason_holds catalog nodes a_limited = list_any is_limited (reached_nodes catalog nodes)
reason_holds catalog nodes a_counted_select = list_any (selects_counted catalog) (reached_nodes catalog nodes)
reason_holds catalog nodes a_counted_program = list_any (inserts_counted catalog) (flat_map body_nodes (reached_programs catalog nodes))
reason_holds catalog nodes two_keys = list_any (updates_by_two_keys catalog) (reached_nodes catalog nodes)
reason_holds catalog nodes ignored_select = list_any ignores_select (reached_nodes catalog nodes)
reason_holds catalog nodes replaced_select = list_any replaces_select (reached_nodes catalog nodes)
reason_holds catalog nodes updated_select = list_any updates_select (reached_nodes catalog nodes)

-- the reasons for which a statement is unsafe, none where its text may be logged
unfoldable pub reasons : List Object → Statement → List Reason
reasons catalog s = filter (reason_holds catalog (nodes_of s)) all_reasons
