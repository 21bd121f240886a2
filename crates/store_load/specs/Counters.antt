-- The counters of tables, as a store that is opened starts them.
use Rattle.std.specs.Prelude.{ℕ, List, filter_map, Option}
use Rattle.std.specs.Option.{option_map}
use Rattle.auto_inc.specs.declared.counters.Counter.{Counter}
use Rattle.auto_inc.specs.Counting.{started}
use Rattle.table_rules.specs.Tables.{Table}

-- the counter of a table, where it has an AUTO_INCREMENT column
abbrev pub started_of : Table → Option Counter
started_of t = option_map (λ (column : ℕ). started t.definition t.rows) t.definition.auto

abbrev pub started_all : List Table → List Counter
started_all tables = filter_map started_of tables
