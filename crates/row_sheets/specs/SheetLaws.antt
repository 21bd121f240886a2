-- What sheets owe.
use Rattle.std.specs.Prelude.{◌≡◌, ℕ, true, List, [], map, Some, slice_get}
use Rattle.val_types.specs.declared.value.Value.{Value}
use Rattle.val_types.specs.declared.definitions.TableDef.{TableDef}
use Rattle.val_types.specs.declared.definitions.KeyDef.{KeyDef}
use Rattle.table_rules.specs.Stored.{row_of_values}
use Rattle.row_sheets.specs.Slots.{Slot, rows_in, row_slots, rows_are_kept, is_sound}
use Rattle.row_sheets.specs.Over.{settled, AreJust}
use Rattle.row_sheets.specs.Claims.{Claim, AreApart, found_by}
use Rattle.row_sheets.specs.Sheets.{Entry, IsSheet, entry_slots, shown}

-- without entries a table shows its committed rows
abbrev pub SheetStarts : Type 0
SheetStarts =
    (definition : TableDef) (rows : List (List Value)) (room : ℕ) → rows_are_kept definition rows ≡ true
    → IsSheet definition rows [] (map (λ unique. []) definition.uniques) room × (shown definition rows [] ≡ rows)

-- rows that are apart are so on each unique key
abbrev pub SoundIsApart : Type 0
SoundIsApart =
    (definition : TableDef) (which : ℕ) (unique : KeyDef) (slots : List Slot) → is_sound definition slots ≡ true
    → slice_get definition.uniques which ≡ Some unique → AreApart unique slots

-- by a value of a unique key its claims lead to the row that is shown with it
abbrev pub SheetFinds : Type 0
SheetFinds =
    (definition : TableDef) (rows : List (List Value)) (entries : List Entry) (claims : List (List Claim)) (room which : ℕ) (unique : KeyDef) (own : List Claim) (values : List Value)
    → IsSheet definition rows entries claims room → slice_get definition.uniques which ≡ Some unique → slice_get claims which ≡ Some own
    → found_by definition unique values own (entry_slots definition entries) (row_slots definition rows)
    ≡ row_of_values unique values (shown definition rows entries)

-- entries settled in any order make the rows that are shown the committed ones, and nothing else is shown then
abbrev pub SheetSettles : Type 0
SheetSettles =
    (definition : TableDef) (rows : List (List Value)) (entries : List Entry) (claims : List (List Claim)) (room : ℕ) (order : List Slot)
    → IsSheet definition rows entries claims room → AreJust order (entry_slots definition entries)
    → (rows_in (settled order (row_slots definition rows)) ≡ shown definition rows entries)
    × (rows_are_kept definition (shown definition rows entries) ≡ true)
    × (shown definition (shown definition rows entries) [] ≡ shown definition rows entries)
