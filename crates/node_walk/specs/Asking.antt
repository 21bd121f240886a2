-- What a walk over a statement asks of each node.
use Rattle.std.specs.Prelude.{ℕ, Bool, true, false, codes, List}
use Rattle.std.specs.Option.{option_map_or}
use Rattle.val_types.specs.declared.ops.Func.{Func}
use Rattle.sql_tree.specs.Statement.{Statement}
use Rattle.sql_tree.specs.StatementView.{view_trigger}
use Rattle.sql_tree.specs.declared.expressions.Count.{Count}
use Rattle.catalog_objects.specs.catalog_rules.Names.{same_name}
use Rattle.catalog_objects.specs.catalog_rules.Nodes.{Node, a_name, a_column, a_new_column, an_old_column, an_inserted_value, a_user_variable, a_system_variable, a_built_in, a_random_number, a_function_call, a_table_read, a_limit, a_statement, table_changed}
use Rattle.catalog_objects.specs.Keys.{objects_of}
use Rattle.sql_reach.specs.sql_meaning.Running.{is_ill_count}
use Rattle.sql_reach.specs.Reach.{is_change, fires_trigger}
use Rattle.sql_reach.specs.Reasons.{ignores_select, inserts_counted, is_unsafe_function, replaces_select, selects_counted, updates_by_two_keys, updates_select}
use Rattle.sql_reach.specs.Carrying.{is_last_insert_id}
use Rattle.node_walk.specs.declared.asking.Ask.{Ask}
use Rattle.node_walk.specs.declared.asking.Ask.TheVariants as asks

-- of a call of a function
abbrev pub asks_call : Ask → List ℕ → Bool
asks_call (asks.Function name) n = same_name name.now n
asks_call asks.Cause n = true
asks_call ask n = false

-- of a built-in function
abbrev pub asks_built_in : Ask → Func → Bool
asks_built_in asks.UnsafeFunction f = is_unsafe_function f
asks_built_in asks.LastInsertId f = is_last_insert_id f
asks_built_in ask f = false

-- of RAND()
abbrev pub asks_random_number : Ask → Bool
asks_random_number asks.UnsafeFunction = true
asks_random_number asks.RandomNumber = true
asks_random_number ask = false

-- of a system variable
abbrev pub asks_system_variable : Ask → List ℕ → Bool
asks_system_variable asks.ServerId n = same_name n (codes "server_id")
asks_system_variable asks.LastInsertId n = same_name n (codes "last_insert_id")
asks_system_variable ask n = false

-- of a table that is read or changed
abbrev pub asks_table : Ask → List ℕ → Bool
asks_table (asks.Table name) t = same_name name.now t
asks_table ask t = false

-- of a LIMIT
abbrev pub asks_limit : Ask → Count → Bool
asks_limit asks.Limit c = true
asks_limit (asks.IllLimit locals) c = is_ill_count locals.now c
asks_limit ask c = false

-- of a statement
abbrev pub asks_statement : Ask → Statement → Bool
asks_statement (asks.Trigger t) s = fires_trigger (view_trigger t.now) (a_statement s)
asks_statement (asks.Table name) s = option_map_or (same_name name.now) (table_changed s) false
asks_statement asks.Change s = is_change s
asks_statement asks.Cause s = is_change s
asks_statement (asks.SelectsCounted objects) s = selects_counted (objects_of objects.now) (a_statement s)
asks_statement (asks.InsertsCounted objects) s = inserts_counted (objects_of objects.now) (a_statement s)
asks_statement (asks.TwoKeys objects) s = updates_by_two_keys (objects_of objects.now) (a_statement s)
asks_statement asks.IgnoresSelect s = ignores_select (a_statement s)
asks_statement asks.ReplacesSelect s = replaces_select (a_statement s)
asks_statement asks.UpdatesSelect s = updates_select (a_statement s)
asks_statement ask s = false

-- of a node; nothing is asked of columns and user variables
abbrev pub asks_node : Ask → Node → Bool
asks_node ask (a_name sight n) = false
asks_node ask (a_column sight t c) = false
asks_node ask (a_new_column c) = false
asks_node ask (an_old_column c) = false
asks_node ask (an_inserted_value sight c) = false
asks_node ask (a_user_variable n) = false
asks_node ask (a_system_variable n) = asks_system_variable ask n
asks_node ask (a_built_in f) = asks_built_in ask f
asks_node ask a_random_number = asks_random_number ask
asks_node ask (a_function_call n count) = asks_call ask n
asks_node ask (a_table_read t) = asks_table ask t
asks_node ask (a_limit c) = asks_limit ask c
asks_node ask (a_statement s) = asks_statement ask s
