-- The AUTO_INCREMENT counters of tables.
use Rattle.std.specs.Prelude.{◌≡◌, ℕ, ◌+◌, max, Bool, nat_eq, find, position, List, [], ◌∷◌, ◌++◌, map, Option, Some, None, ℤ, pos, negsuc, slice_index_or}
use Rattle.std.specs.List.{IsDistinct}
use Rattle.std.specs.Option.{option_map}
use Rattle.std.specs.Cmp.Lexicographic.{pointwise}
use Rattle.val_types.specs.Lookup.{change_first, remove_first}
use Rattle.val_types.specs.declared.definitions.TableDef.{TableDef}
use Rattle.val_types.specs.declared.value.Value.{Value}
use Rattle.val_types.specs.declared.value.Value.TheVariants.{Null, Int, Text}
use Rattle.auto_inc.specs.declared.counters.Counter.{Counter}

-- ---- counters by their tables

-- whether a counter is that of a table
abbrev pub counts_for : List ℕ → Counter → Bool
counts_for table counter = pointwise nat_eq table counter.table

-- the value of the counter of a table, None where the table has none
abbrev pub value_for : List ℕ → List Counter → Option ℕ
value_for table counters = option_map (λ counter. counter.value) (find (counts_for table) counters)

-- the counters, that of a table with another value
abbrev pub changed_for : List ℕ → (ℕ → ℕ) → List Counter → List Counter
changed_for table change counters = change_first (counts_for table) (λ counter. record counter { value = change counter.value }) counters

-- the counters without that of a table
abbrev pub counters_beside : List ℕ → List Counter → List Counter
counters_beside table counters = remove_first (counts_for table) counters

-- the tables that have counters
abbrev pub tables_of : List Counter → List (List ℕ)
tables_of counters = map (λ counter. counter.table) counters

-- no table has two counters
abbrev pub HaveOneEach : List Counter → Type 0
HaveOneEach counters = IsDistinct (pointwise nat_eq) (tables_of counters)

-- the place of the counter of a table
abbrev pub place_for : List ℕ → List Counter → Option ℕ
place_for table counters = position (pointwise nat_eq table) (tables_of counters)

-- ---- values

-- the number behind a value, 0 behind one below 0
abbrev pub behind : ℤ → ℕ
behind (pos n) = n + 1
behind (negsuc n) = 0

-- ---- what a counter starts with

-- the number that a column holds in a row, 0 where it holds none above 0
abbrev pub number_held : Value → ℕ
number_held Null = 0
number_held (Int (pos n)) = n
number_held (Int (negsuc n)) = 0
number_held (Text t) = 0

-- the greatest number that a column holds in some rows, 0 where it holds none above 0
abbrev pub greatest_held : ℕ → List (List Value) → ℕ
greatest_held column [] = 0
greatest_held column (row ∷ rows) = max (number_held (slice_index_or row column Null)) (greatest_held column rows)

-- a counter starts behind the greatest number held in the AUTO_INCREMENT column, at 1 where there is no such column
abbrev pub start_value : Option ℕ → List (List Value) → ℕ
start_value None rows = 1
start_value (Some column) rows = greatest_held column rows + 1

-- the counter of a table with some rows
abbrev pub started : TableDef → List (List Value) → Counter
started definition rows = record { table = definition.name; value = start_value definition.auto rows }

-- one row more raises what a counter starts with, as the value in its column would
abbrev pub StartRises : Type 0
StartRises = (column : ℕ) (rows : List (List Value)) (row : List Value)
    → start_value (Some column) (rows ++ row ∷ []) ≡ max (number_held (slice_index_or row column Null) + 1) (start_value (Some column) rows)
