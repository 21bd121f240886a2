-- Committed rows by their numbers, as slots.
use Rattle.std.specs.Prelude.{ℕ, Bool, List, [], Option, Some, None, slice_get, is_some}
use Rattle.std.specs.List.{list_all}
use Rattle.std.specs.Option.{option_and_then}
use Rattle.val_types.specs.declared.value.Value.{Value}
use Rattle.val_types.specs.declared.definitions.TableDef.{TableDef}
use Rattle.val_types.specs.Keys.{primary_key}
use Rattle.row_index.specs.row_sheets.Slots.{Slot}

-- the row of a number
abbrev pub row_of : List (Option (List Value)) → ℕ → Option (List Value)
row_of rows number = option_and_then (λ row. row) (slice_get rows number)

-- the slot of a row that is there
abbrev pub slot_of_row : TableDef → Option (List Value) → Slot
slot_of_row definition None = record { key = []; row = None }
slot_of_row definition (Some row) = record { key = primary_key definition row; row = Some row }

-- the slot of a number
unfoldable pub row_slot : TableDef → List (Option (List Value)) → ℕ → Slot
row_slot definition rows number = slot_of_row definition (row_of rows number)

-- whether each number has a row
abbrev pub are_numbered : List (Option (List Value)) → List ℕ → Bool
are_numbered rows numbers = list_all (λ number. is_some (row_of rows number)) numbers
