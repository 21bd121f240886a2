-- Which statements do the same for whoever runs them.
use Rattle.std.specs.Prelude.{Bool, true, false, not, ◌&&◌, ◌||◌, List, flat_map}
use Rattle.std.specs.List.{list_all, list_any}
use Rattle.sql_tree.specs.Statement.{Statement}
use Rattle.session_ctx.specs.catalog_rules.Objects.{Object}
use Rattle.session_ctx.specs.catalog_rules.Nodes.{Node, a_built_in, nodes_of}
use Rattle.reach_laws.specs.sql_reach.Reach.{body_nodes, reached_programs, reached_nodes}
use Rattle.reach_laws.specs.sql_reach.Reasons.{Reason, a_function, is_unsafe_function, names_server_id, inserts_counted, reasons}

-- a call of UUID(), SYSDATE(), USER() or ROW_COUNT(), whose value is that of a node or of a session and is not carried
abbrev pub names_own_function : Node → Bool
names_own_function (a_built_in f) = is_unsafe_function f
names_own_function node = false

-- whether some nodes reach no such call, not @@server_id, and no program that inserts into a table with AUTO_INCREMENT; RAND()
-- they may reach, since its seeds are carried
abbrev pub reach_nothing_own : List Object → List Node → Bool
reach_nothing_own catalog nodes =
    not (list_any names_own_function (reached_nodes catalog nodes) || list_any names_server_id (reached_nodes catalog nodes)
    || list_any (inserts_counted catalog) (flat_map body_nodes (reached_programs catalog nodes)))

-- whether what a statement does follows from its tables and from what its item carries
unfoldable pub is_followed : List Object → Statement → Bool
is_followed catalog s = reach_nothing_own catalog (nodes_of s)

-- ---- RAND() as the only reason

-- the reason that RAND() is, too
abbrev pub is_of_functions : Reason → Bool
is_of_functions a_function = true
is_of_functions reason = false

-- whether each reason for which a statement is unsafe, if there is one, comes from RAND() alone
unfoldable pub is_unsafe_by_rand_alone : List Object → Statement → Bool
is_unsafe_by_rand_alone catalog s =
    list_all is_of_functions (reasons catalog s) && not (list_any names_own_function (reached_nodes catalog (nodes_of s)))
