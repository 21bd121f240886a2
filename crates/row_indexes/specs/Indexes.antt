-- An index of a unique key: rows in the order of their values in the key, without those that have a NULL there.
use Rattle.std.specs.Prelude.{◌≡◌, ℕ, true, cond, List, [], Option, Some, None, is_none}
use Rattle.std.specs.Option.{option_map, option_or, option_and_then}
use Rattle.val_types.specs.declared.value.Value.{Value}
use Rattle.val_types.specs.declared.definitions.TableDef.{TableDef}
use Rattle.val_types.specs.declared.definitions.KeyDef.{KeyDef}
use Rattle.val_types.specs.Keys.{primary_key, values_at}
use Rattle.table_rules.specs.Stored.{row_of_values}
use Rattle.row_sheets.specs.Slots.{Slot, held, keys_in, keys_rise, rows_in}

-- the slot of a row that is there, by its values in a unique key
abbrev pub slot_by_values : KeyDef → Option (List Value) → Slot
slot_by_values unique None = record { key = []; row = None }
slot_by_values unique (Some row) = record { key = values_at unique.columns row; row = Some row }

-- the slot of a number
abbrev pub value_slot : KeyDef → (ℕ → Option (List Value)) → ℕ → Slot
value_slot unique row_at number = slot_by_values unique (row_at number)

-- An index of some rows: its values rise, and of each value it has the row that has it.
pub record IsIndexOf (unique : KeyDef) (index : List Slot) (rows : List (List Value)) : Type 0 where
  pub rising : keys_rise (keys_in index) ≡ true
  pub told : (values : List Value) → held values index ≡ option_map (λ row. Some row) (row_of_values unique values rows)

-- a committed row, where the transaction has no entry of its key
abbrev pub unless_entered : TableDef → List Slot → List Value → Option (List Value)
unless_entered definition entries row = cond (is_none (held (primary_key definition row) entries)) (Some row) None

-- Found by a unique key: the row of the entry that has the values; else the committed row, where it has no entry.
abbrev pub found_in : TableDef → KeyDef → List Value → List Slot → List Slot → Option (List Value)
found_in definition unique values entries committed =
    option_or (row_of_values unique values (rows_in entries)) (option_and_then (unless_entered definition entries) (row_of_values unique values (rows_in committed)))
