-- What a statement reaches: itself, the functions that it calls, the triggers of the events that it causes, and all that these
-- reach. A name that is not there reaches nothing.
use Rattle.std.specs.Prelude.{ℕ, zero, suc, Bool, true, false, ◌&&◌, ◌||◌, List, [], ◌∷◌, ◌++◌, length, filter, flat_map}
use Rattle.std.specs.List.{list_any}
use Rattle.sql_tree.specs.Statement.{Statement, create_table, create_function, create_procedure, create_trigger, drop_table, drop_function, drop_procedure, drop_trigger, truncate, insert_into, replace_into, update_rows, delete_rows}
use Rattle.sql_tree.specs.Statement.{Trigger, trigger}
use Rattle.sql_tree.specs.declared.statements.Cause.{Cause}
use Rattle.sql_tree.specs.declared.statements.Cause.TheVariants as causes
use Rattle.sql_meaning.specs.catalog_rules.Names.{same_name}
use Rattle.sql_meaning.specs.catalog_rules.Objects.{Object, table, function, procedure, reaction, name_of, body_of, trigger_body, same_event}
use Rattle.sql_meaning.specs.catalog_rules.Nodes.{Node, a_function_call, a_statement, nodes_of}

-- the events that an INSERT causes, with ON DUPLICATE KEY UPDATE also updates
abbrev pub insert_events : {A : Type 0} → List A → List Cause
insert_events [] = causes.Insert ∷ []
insert_events (s ∷ ss) = causes.Insert ∷ causes.Update ∷ []

-- whether a statement causes an event of a table
abbrev pub causes_event : List ℕ → Cause → Statement → Bool
causes_event on event (insert_into ignore t names supply sets) = same_name on t && list_any (same_event event) (insert_events sets)
causes_event on event (replace_into t names supply) = same_name on t && (same_event event causes.Insert || same_event event causes.Delete)
causes_event on event (update_rows t sets condition os limit) = same_name on t && same_event event causes.Update
causes_event on event (delete_rows t condition os limit) = same_name on t && same_event event causes.Delete
causes_event on event s = false

abbrev pub calls_function : List ℕ → Node → Bool
calls_function name (a_function_call n count) = same_name name n
calls_function name node = false

abbrev pub fires_trigger : Trigger → Node → Bool
fires_trigger (trigger name time event on body) (a_statement s) = causes_event on event s
fires_trigger t node = false

-- whether a node names a function or causes what a trigger waits for
abbrev pub is_reached_from : List Node → Object → Bool
is_reached_from nodes (table definition) = false
is_reached_from nodes (function p) = list_any (calls_function (name_of p)) nodes
is_reached_from nodes (procedure p) = false
is_reached_from nodes (reaction t) = list_any (fires_trigger t) nodes

-- the nodes of an object's body
abbrev pub body_nodes : Object → List Node
body_nodes (table definition) = []
body_nodes (function p) = nodes_of (body_of p)
body_nodes (procedure p) = nodes_of (body_of p)
body_nodes (reaction t) = nodes_of (trigger_body t)

-- the programs that some nodes and the bodies of some programs reach
abbrev pub one_round : List Object → List Node → List Object → List Object
one_round catalog nodes programs = filter (is_reached_from (nodes ++ flat_map body_nodes programs)) catalog

abbrev pub rounds : ℕ → List Object → List Node → List Object
rounds zero catalog nodes = []
rounds (suc n) catalog nodes = one_round catalog nodes (rounds n catalog nodes)

-- the programs that some nodes reach: each round finds one more, until none is left to find
abbrev pub reached_programs : List Object → List Node → List Object
reached_programs catalog nodes = rounds (length catalog) catalog nodes

-- all nodes that some nodes reach
abbrev pub reached_nodes : List Object → List Node → List Node
reached_nodes catalog nodes = nodes ++ flat_map body_nodes (reached_programs catalog nodes)

-- ---- writing statements

abbrev pub is_change : Statement → Bool
is_change (insert_into ignore t names supply sets) = true
is_change (replace_into t names supply) = true
is_change (update_rows t sets condition os limit) = true
is_change (delete_rows t condition os limit) = true
is_change s = false

abbrev pub is_definition : Statement → Bool
is_definition (create_table t) = true
is_definition (create_function p) = true
is_definition (create_procedure p) = true
is_definition (create_trigger t) = true
is_definition (drop_table n) = true
is_definition (drop_function n) = true
is_definition (drop_procedure n) = true
is_definition (drop_trigger n) = true
is_definition (truncate n) = true
is_definition s = false

abbrev pub holds_change : Node → Bool
holds_change (a_statement s) = is_change s
holds_change node = false

abbrev pub is_writing_function : Object → Bool
is_writing_function (table definition) = false
is_writing_function (function p) = list_any holds_change (nodes_of (body_of p))
is_writing_function (procedure p) = false
is_writing_function (reaction t) = false

-- whether a statement needs the writer's lock: a change, a definition, or one that reaches a function with a change in it
unfoldable pub writes : List Object → Statement → Bool
writes catalog s = is_change s || is_definition s || list_any is_writing_function (reached_programs catalog (nodes_of s))
