-- What CREATE, DROP, TRUNCATE and an opening do to counters, and the number from which UUID() counts.
use Rattle.std.specs.Prelude.{ℕ, ◌+◌, ◌*◌, List, [], ◌∷◌, ◌++◌, filter_map, Some, None}
use Rattle.std.specs.Option.{option_map}
use Rattle.val_types.specs.declared.definitions.TableDef.{TableDef}
use Rattle.auto_inc.specs.declared.counters.Counter.{Counter}
use Rattle.auto_inc.specs.Counting.{changed_for, counters_beside, started}
use Rattle.sql_tree.specs.Statement.{Statement, create_table, drop_table, truncate}
use Rattle.sql_meaning.specs.catalog_rules.Bases.{Base}
use Rattle.sql_meaning.specs.catalog_rules.Defined.{definition_of}

-- the counter of a table that is made with an AUTO_INCREMENT column begins at 1
abbrev pub counters_with : TableDef → List Counter → List Counter
counters_with definition counters =
    elim (definition.auto) [ None ↦ counters | Some place ↦ counters ++ record { table = definition.name; value = 1 } ∷ [] ]

abbrev pub counters_after : Statement → List Counter → List Counter
counters_after (create_table t) counters = counters_with (definition_of t) counters
counters_after (drop_table name) counters = counters_beside name counters
counters_after (truncate name) counters = changed_for name (λ _. 1) counters
counters_after s counters = counters

-- the counters of a base where a node opens: of each table with an AUTO_INCREMENT column, behind the greatest number that its rows have there
abbrev pub counters_begun : Base → List Counter
counters_begun base = filter_map (λ t. option_map (λ (column : ℕ). started t.definition t.rows) t.definition.auto) base.tables

-- bytes as a number, the most significant first
abbrev pub number_of_bytes : ℕ → List ℕ → ℕ
number_of_bytes so_far [] = so_far
number_of_bytes so_far (b ∷ bs) = number_of_bytes (256 * so_far + b) bs
