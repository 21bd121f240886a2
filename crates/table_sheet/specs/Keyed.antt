-- Rows by the values that they have in a key of a number.
use Rattle.std.specs.Prelude.{ℕ, zero, suc, List, Option, slice_get}
use Rattle.std.specs.Option.{option_and_then}
use Rattle.val_types.specs.declared.value.Value.{Value}
use Rattle.val_types.specs.declared.definitions.TableDef.{TableDef}
use Rattle.table_rules.specs.Stored.{row_of_key, row_of_values}

-- the row that has some values in the key of a number: 0 is the primary key, then come the unique keys in order of definition; none
-- where one of the values is NULL in a unique key, or there is no key of the number
abbrev pub row_with : TableDef → ℕ → List Value → List (List Value) → Option (List Value)
row_with definition zero values rows = row_of_key definition values rows
row_with definition (suc which) values rows = option_and_then (λ key. row_of_values key values rows) (slice_get definition.uniques which)
