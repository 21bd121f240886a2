-- The entries of a transaction by their numbers, as slots.
use Rattle.std.specs.Prelude.{ℕ, Bool, nat_lt, List, [], length, Option, Some, None, slice_get}
use Rattle.std.specs.List.{list_all}
use Rattle.std.specs.Option.{option_and_then}
use Rattle.val_types.specs.declared.value.Value.{Value}
use Rattle.val_types.specs.declared.definitions.TableDef.{TableDef}
use Rattle.val_types.specs.Keys.{primary_key}
use Rattle.row_index.specs.row_sheets.Slots.{Slot}
use Rattle.table_sheet.specs.declared.entry.Entry.{Entry}

-- the slot of an entry that is there
abbrev pub slot_of_entry : TableDef → Option Entry → Slot
slot_of_entry definition None = record { key = []; row = None }
slot_of_entry definition (Some entry) = record { key = primary_key definition entry.bearer; row = entry.present }

-- the slot of a number
unfoldable pub entry_slot : TableDef → List Entry → ℕ → Slot
entry_slot definition entries number = slot_of_entry definition (slice_get entries number)

-- the row that the entry of a number shows
abbrev pub shown_by : List Entry → ℕ → Option (List Value)
shown_by entries number = option_and_then (λ entry. entry.present) (slice_get entries number)

-- whether each number is that of an entry
abbrev pub are_ranked : List Entry → List ℕ → Bool
are_ranked entries numbers = list_all (λ number. nat_lt number (length entries)) numbers
