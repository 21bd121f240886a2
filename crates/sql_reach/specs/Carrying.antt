-- What an item carries of the context in which its statement ran.
use Rattle.std.specs.Prelude.{ℕ, Bool, true, false, codes, List, [], ◌∷◌, map, filter_map, Option, Some, None, ℤ}
use Rattle.std.specs.List.{list_any}
use Rattle.std.specs.declared.cmp.Ordering.{Ordering}
use Rattle.std.specs.declared.cmp.Ordering.TheVariants.{Less, Equal, Greater}
use Rattle.std.specs.Ordering.{nat_cmp}
use Rattle.std.specs.Cmp.Lexicographic.{slice_cmp}
use Rattle.val_types.specs.declared.value.Value.{Value}
use Rattle.val_types.specs.declared.ops.Func.{Func}
use Rattle.sql_meaning.specs.catalog_rules.Names.{same_name}
use Rattle.sql_meaning.specs.catalog_rules.Objects.{Object}
use Rattle.sql_meaning.specs.catalog_rules.Nodes.{Node, a_built_in, a_random_number, a_system_variable, a_user_variable, nodes_of}
use Rattle.sql_tree.specs.BuiltIns.{about}
use Rattle.sql_tree.specs.Statement.{Statement}
use Rattle.sql_meaning.specs.log_entries.Variables.{variable_value}
use Rattle.sql_meaning.specs.log_entries.declared.carried.Carried.{Carried}
use Rattle.sql_meaning.specs.Frames.{Context}
use Rattle.sql_reach.specs.Reach.{reached_nodes}

-- a built-in that reads the last insert id of the session
abbrev pub is_last_insert_id : Func → Bool
is_last_insert_id f = (about f).reads_last_id

-- LAST_INSERT_ID() or @@last_insert_id
abbrev pub asks_last_id : Node → Bool
asks_last_id (a_built_in f) = is_last_insert_id f
asks_last_id (a_system_variable n) = same_name n (codes "last_insert_id")
asks_last_id node = false

abbrev pub draws : Node → Bool
draws a_random_number = true
draws node = false

abbrev pub user_variable_at : Node → Option (List ℕ)
user_variable_at (a_user_variable n) = Some n
user_variable_at node = None

-- a name put among names that rise byte by byte, unless it is there
abbrev pub put_by_order : Ordering → List ℕ → List ℕ → List (List ℕ) → List (List ℕ) → List (List ℕ)
put_by_order Less name first names rest = name ∷ first ∷ names
put_by_order Equal name first names rest = first ∷ names
put_by_order Greater name first names rest = first ∷ rest

abbrev pub put_name : List ℕ → List (List ℕ) → List (List ℕ)
put_name name [] = name ∷ []
put_name name (first ∷ names) = put_by_order (slice_cmp nat_cmp name first) name first names (put_name name names)

-- names in the order of their bytes, each once
abbrev pub in_byte_order : List (List ℕ) → List (List ℕ)
in_byte_order [] = []
in_byte_order (name ∷ names) = put_name name (in_byte_order names)

-- the user variables that some nodes reach, with their values before the statement
abbrev pub variables_reached : List (List ℕ × Value) → List Node → List (List ℕ × Value)
variables_reached variables nodes =
    map (λ name. (name, variable_value variables name)) (in_byte_order (filter_map user_variable_at nodes))

abbrev pub if_asked : {A : Type 0} → Bool → A → Option A
if_asked true a = Some a
if_asked false a = None

-- the parts of a context that a statement carries, with the first value that it generated
abbrev pub carried_by : Context → List Node → Option ℤ → Carried
carried_by context nodes first = record {
  stamp = context.stamp;
  connection = context.connection;
  inc = context.increment;
  off = context.offset;
  last_id = if_asked (list_any asks_last_id nodes) context.last_id;
  first = first;
  seeds = if_asked (list_any draws nodes) context.seeds;
  vars = variables_reached context.variables nodes;
}

unfoldable pub carried : List Object → Statement → Context → Option ℤ → Carried
carried catalog s context first = carried_by context (reached_nodes catalog (nodes_of s)) first
