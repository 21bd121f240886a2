-- Tables put one by one behind names stand behind them as the definition names them.
use Rattle.std.proofs.Common.{◌≡◌, ℕ, List, [], ◌∷◌, ◌++◌, Option, Some, None, refl, sym, ap, ◌∙◌}
use Rattle.std.specs.List.{cons_option}
use Rattle.std.proofs.lemmas.List.{append-nil, append_assoc}
use Rattle.sql_tree.specs.Statement.{Statement}
use Rattle.sql_reach.specs.catalog_rules.Nodes.{Node, nodes_of, a_name, a_column, a_new_column, an_old_column, an_inserted_value, a_user_variable, a_system_variable, a_built_in, a_random_number, a_function_call, a_table_read, a_limit, a_statement, table_at}
use Rattle.sql_reach.specs.sql_meaning.Running.{tables_named}
use Rattle.statement_names.specs.Naming.{tables}
use Rattle.statement_names.specs.Visiting.{node_visited, nodes_visited, table_visited}
use Rattle.statement_names.specs.Walking.{of_statement}
use Rattle.statement_names.proofs.Walked.{statement_walked}

-- a node gives the table at it
at_node : (node : Node) (names : List (List ℕ)) → node_visited tables node names ≡ table_visited tables (table_at node) names
at_node (a_name sight n) names = refl
at_node (a_column sight t c) names = refl
at_node (a_new_column c) names = refl
at_node (an_old_column c) names = refl
at_node (an_inserted_value sight c) names = refl
at_node (a_user_variable n) names = refl
at_node (a_system_variable n) names = refl
at_node (a_built_in f) names = refl
at_node a_random_number names = refl
at_node (a_function_call n count) names = refl
at_node (a_table_read t) names = refl
at_node (a_limit c) names = refl
at_node (a_statement s) names = refl

one_more : (table : Option (List ℕ)) (names more : List (List ℕ)) → table_visited tables table names ++ more ≡ names ++ cons_option table more
one_more None names more = refl
one_more (Some t) names more = append_assoc names (t ∷ []) more

gathered : (nodes : List Node) (names : List (List ℕ)) → nodes_visited tables nodes names ≡ names ++ tables_named nodes
gathered [] names = sym (append-nil names)
gathered (node ∷ nodes) names =
    gathered nodes (node_visited tables node names) ∙ ap (λ front. front ++ tables_named nodes) (at_node node names)
    ∙ one_more (table_at node) names (tables_named nodes)

pub statement_gathered : (s : Statement) → tables_named (nodes_of s) ≡ of_statement tables s []
statement_gathered s = sym (gathered (nodes_of s) []) ∙ statement_walked tables s []
