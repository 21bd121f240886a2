-- Rows found by the values of a key, and how many rows and entries there are to look among.
use Rattle.std.specs.Prelude.{ℕ, List, length, Option, slice_get}
use Rattle.std.specs.Option.{option_and_then, option_map_or}
use Rattle.val_types.specs.declared.value.Value.{Value}
use Rattle.table_rules.specs.Tables.{Table}
use Rattle.table_rules.specs.Stored.{table_named}
use Rattle.table_rules.specs.Stores.{Store}
use Rattle.table_sheet.specs.Keyed.{row_with}

-- the row that has some values in the key of a number, in the table of a name
abbrev pub found_with : List ℕ → ℕ → List Value → List Table → Option (List Value)
found_with name which values tables = option_and_then (λ table. row_with table.definition which values table.rows) (table_named name tables)

-- how many rows are there to stay in the table at a place
abbrev pub rows_at : ℕ → Store → ℕ
rows_at at store = option_map_or (λ table. length table.rows) (slice_get store.committed at) 0

-- how many keys are kept there
abbrev pub keys_at : ℕ → Store → ℕ
keys_at at store = option_map_or (λ keys. length keys) (slice_get store.kept at) 0
