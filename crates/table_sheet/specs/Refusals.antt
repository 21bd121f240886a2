-- What storing a row makes of the rows of a table, by its answer.
use Rattle.std.specs.Prelude.{◌≡◌, true, List, Some, None, Result, Ok, Err, is_some}
use Rattle.val_types.specs.declared.value.Value.{Value}
use Rattle.val_types.specs.declared.definitions.TableDef.{TableDef}
use Rattle.table_rules.specs.Changes.{with_row}
use Rattle.table_rules.specs.Stored.{row_of_key, rows_beside, key_in_way}
use Rattle.table_sheet.specs.declared.refusal.SheetRefusal.{SheetRefusal}
use Rattle.table_sheet.specs.declared.refusal.SheetRefusal.TheVariants.{Taken, Absent, NoMemory}

-- inserting a row: one more, or the first key in the way
abbrev pub Inserted : Result (Unit {0}) SheetRefusal → TableDef → List Value → List (List Value) → List (List Value) → Type 0
Inserted (Ok done) definition row old new = (key_in_way definition row old ≡ None) × (new ≡ with_row definition row old)
Inserted (Err (Taken which)) definition row old new = (key_in_way definition row old ≡ Some which) × (new ≡ old)
Inserted (Err Absent) definition row old new = ⊥
Inserted (Err NoMemory) definition row old new = new ≡ old

-- replacing the row of a key: another row among those beside it
abbrev pub Replaced : Result (Unit {0}) SheetRefusal → TableDef → List Value → List Value → List (List Value) → List (List Value) → Type 0
Replaced (Ok done) definition key row old new =
    (is_some (row_of_key definition key old) ≡ true)
    × (key_in_way definition row (rows_beside definition key old) ≡ None)
    × (new ≡ with_row definition row (rows_beside definition key old))
Replaced (Err (Taken which)) definition key row old new =
    (is_some (row_of_key definition key old) ≡ true)
    × (key_in_way definition row (rows_beside definition key old) ≡ Some which)
    × (new ≡ old)
Replaced (Err Absent) definition key row old new = (row_of_key definition key old ≡ None) × (new ≡ old)
Replaced (Err NoMemory) definition key row old new = new ≡ old

-- taking the row of a key out; an entry for it may want memory
abbrev pub Deleted : Result (Unit {0}) SheetRefusal → TableDef → List Value → List (List Value) → List (List Value) → Type 0
Deleted (Ok done) definition key old new = (is_some (row_of_key definition key old) ≡ true) × (new ≡ rows_beside definition key old)
Deleted (Err (Taken which)) definition key old new = ⊥
Deleted (Err Absent) definition key old new = (row_of_key definition key old ≡ None) × (new ≡ old)
Deleted (Err NoMemory) definition key old new = new ≡ old
