-- What a visitor makes of the names that it meets: those of user variables and of tables.
use Rattle.std.specs.Prelude.{ℕ, List, [], ◌∷◌, Option, Some, None}
use Rattle.sql_reach.specs.catalog_rules.Nodes.{Node, a_user_variable, a_table_read, a_statement, table_changed}

pub record Visits (N : Type 0) : Type 0 where
  pub variable : List ℕ → N → N
  pub table : List ℕ → N → N

abbrev pub table_visited : {N : Type 0} → Visits N → Option (List ℕ) → N → N
table_visited at None names = names
table_visited at (Some t) names = at.table t names

-- at a node: a user variable, a table that is read, or the table that a statement changes
abbrev pub node_visited : {N : Type 0} → Visits N → Node → N → N
node_visited at (a_user_variable n) names = at.variable n names
node_visited at (a_table_read t) names = at.table t names
node_visited at (a_statement s) names = table_visited at (table_changed s) names
node_visited at node names = names

-- at nodes, one after the other
abbrev pub nodes_visited : {N : Type 0} → Visits N → List Node → N → N
nodes_visited at [] names = names
nodes_visited at (node ∷ nodes) names = nodes_visited at nodes (node_visited at node names)
