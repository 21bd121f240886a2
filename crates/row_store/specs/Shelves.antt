-- What the shelves stand for, and what is done with the rows on one.
use Rattle.std.specs.Prelude.{◌≡◌, ℕ, Bool, true, ◌&&◌, nat_eq, List, map, Some, None, Result, Ok, Err, is_some}
use Rattle.std.specs.Cmp.Lexicographic.{pointwise}
use Rattle.val_types.specs.declared.value.Value.{Value}
use Rattle.val_types.specs.declared.definitions.TableDef.{TableDef}
use Rattle.val_types.specs.declared.change.Change.{Change}
use Rattle.val_types.specs.declared.change.Change.TheVariants.{Insert, Update, Delete}
use Rattle.val_types.specs.Keys.{primary_key}
use Rattle.table_rules.specs.Tables.{Table}
use Rattle.table_rules.specs.Changes.{with_row}
use Rattle.table_rules.specs.Stored.{row_of_key, rows_beside, key_in_way}
use Rattle.table_rules.specs.Stores.{Store}
use Rattle.table_sheet.specs.row_sheets.Slots.{keys_in, rows_in}
use Rattle.table_sheet.specs.Pages.{Page, rows_on, has_entry}
use Rattle.row_store.specs.declared.refusal.RowRefusal.{RowRefusal}
use Rattle.row_store.specs.declared.refusal.RowRefusal.TheVariants.{Taken, Absent, NoMemory}
use Rattle.row_store.specs.declared.shelf.Shelf.{Shelf}

-- the table that a shelf holds
abbrev pub table_on : Shelf → Table
table_on shelf = record { definition = shelf.sheet.definition; rows = rows_on shelf.sheet }

-- the tables on some shelves
abbrev pub tables_on : List Shelf → List Table
tables_on shelves = map table_on shelves

-- the definitions of the tables on some shelves
abbrev pub definitions_on : List Shelf → List TableDef
definitions_on shelves = map (λ shelf. shelf.sheet.definition) shelves

-- the keys that a shelf has entries of
abbrev pub keys_on : Shelf → List (List Value)
keys_on shelf = keys_in shelf.sheet.entries

-- the table that a shelf holds, with the rows that are there to stay
abbrev pub committed_on : Shelf → Table
committed_on shelf = record { definition = shelf.sheet.definition; rows = rows_in shelf.sheet.committed }

-- for how many new rows a shelf has room
abbrev pub room_on : Shelf → ℕ
room_on shelf = shelf.sheet.room

-- what some shelves store: their tables, the keys that they have entries of, the rows that are there to stay, and their room
unfoldable pub store_of : List Shelf → Store
store_of shelves = record {
  tables = tables_on shelves;
  kept = map keys_on shelves;
  committed = map committed_on shelves;
  room = map room_on shelves;
}

-- whether a shelf holds the table of a name
abbrev pub is_named : List ℕ → Shelf → Bool
is_named name shelf = pointwise nat_eq name shelf.sheet.definition.name

-- whether a shelf has an entry of the primary key of a row
abbrev pub has_entry_for : List Value → Shelf → Bool
has_entry_for row shelf = has_entry (primary_key shelf.sheet.definition row) shelf.sheet

-- whether a page has entries of the keys of the rows that a change puts and takes out
abbrev pub has_entries_for : Page → Change → Bool
has_entries_for page (Insert name row) = has_entry (primary_key page.definition row) page
has_entries_for page (Update name before after) = has_entry (primary_key page.definition before) page && has_entry (primary_key page.definition after) page
has_entries_for page (Delete name row) = has_entry (primary_key page.definition row) page

-- what inserting a row makes of rows: one more, or the first key in the way
abbrev pub Inserted : Result (Unit {0}) RowRefusal → TableDef → List Value → List (List Value) → List (List Value) → Type 0
Inserted (Ok done) definition row old new = (key_in_way definition row old ≡ None) × (new ≡ with_row definition row old)
Inserted (Err (Taken which)) definition row old new = (key_in_way definition row old ≡ Some which) × (new ≡ old)
Inserted (Err Absent) definition row old new = ⊥
Inserted (Err NoMemory) definition row old new = new ≡ old

-- what replacing the row of a key makes of rows
abbrev pub Replaced : Result (Unit {0}) RowRefusal → TableDef → List Value → List Value → List (List Value) → List (List Value) → Type 0
Replaced (Ok done) definition key row old new =
    (is_some (row_of_key definition key old) ≡ true)
    × (key_in_way definition row (rows_beside definition key old) ≡ None)
    × (new ≡ with_row definition row (rows_beside definition key old))
Replaced (Err (Taken which)) definition key row old new =
    (is_some (row_of_key definition key old) ≡ true)
    × (key_in_way definition row (rows_beside definition key old) ≡ Some which)
    × (new ≡ old)
Replaced (Err Absent) definition key row old new = (row_of_key definition key old ≡ None) × (new ≡ old)
Replaced (Err NoMemory) definition key row old new = new ≡ old

-- what taking the row of a key out makes of rows; an entry for it may want memory
abbrev pub Deleted : Result (Unit {0}) RowRefusal → TableDef → List Value → List (List Value) → List (List Value) → Type 0
Deleted (Ok done) definition key old new = (is_some (row_of_key definition key old) ≡ true) × (new ≡ rows_beside definition key old)
Deleted (Err (Taken which)) definition key old new = ⊥
Deleted (Err Absent) definition key old new = (row_of_key definition key old ≡ None) × (new ≡ old)
Deleted (Err NoMemory) definition key old new = new ≡ old
