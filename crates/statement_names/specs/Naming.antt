-- The visitors: the user variables of statements, put among names that rise, and their tables, one behind the other.
use Rattle.std.specs.Prelude.{◌≡◌, ℕ, List, [], ◌∷◌, ◌++◌, filter_map}
use Rattle.sql_reach.specs.catalog_rules.Nodes.{Node}
use Rattle.sql_reach.specs.Carrying.{in_byte_order, put_name, user_variable_at}
use Rattle.statement_names.specs.Visiting.{Visits, nodes_visited}

abbrev pub variables : Visits (List (List ℕ))
variables = record { variable = put_name; table = λ t names. names }

abbrev pub tables : Visits (List (List ℕ))
tables = record { variable = λ n names. names; table = λ t names. names ++ t ∷ [] }

-- the names with the user variables of some nodes, put one after the other
abbrev pub nodes_put : List Node → List (List ℕ) → List (List ℕ)
nodes_put nodes names = nodes_visited variables nodes names

-- put where none is, they are the names in the order of their bytes, each once
abbrev pub NamesAreInByteOrder : Type 0
NamesAreInByteOrder = (nodes : List Node) → nodes_put nodes [] ≡ in_byte_order (filter_map user_variable_at nodes)
