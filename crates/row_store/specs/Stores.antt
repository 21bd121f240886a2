-- What storing a row answers, and what replacing or taking out a row that stands just so comes to.
use Rattle.std.specs.Prelude.{◌≡◌, ℕ, if◌then◌else◌, List, Some, Result, Ok, Err}
use Rattle.val_types.specs.declared.value.Value.{Value}
use Rattle.val_types.specs.declared.change.Change.{Change}
use Rattle.val_types.specs.declared.change.Change.TheVariants.{Update, Delete}
use Rattle.val_types.specs.Keys.{primary_key}
use Rattle.table_rules.specs.Tables.{Table}
use Rattle.table_rules.specs.Stored.{Obstacle, key_taken, row_absent, carried_out, key_in_way, rows_beside, table_named, unless_taken, where_found}
pub use Rattle.table_sheet.specs.Standing.{is_standing}
use Rattle.row_store.specs.declared.refusal.RowRefusal.{RowRefusal}
use Rattle.row_store.specs.declared.refusal.RowRefusal.TheVariants.{Taken, Absent, NoMemory}

-- the change that puts a row in the place of another in a table: just that one has to stand there; then the keys of the rows beside it may be in the way
abbrev pub exchange_in : List ℕ → List Value → List Value → Table → Result Change Obstacle
exchange_in name old new table =
    if is_standing table.definition old table.rows
    then unless_taken (key_in_way table.definition new (rows_beside table.definition (primary_key table.definition old) table.rows)) (Update name old new)
    else Err row_absent

-- the change that takes a row out of a table, where just that one stands there
abbrev pub removal_in : List ℕ → List Value → Table → Result Change Obstacle
removal_in name row table = if is_standing table.definition row table.rows then Ok (Delete name row) else Err row_absent

-- the same in the table of a name
unfoldable pub exchange : List ℕ → List Value → List Value → List Table → Result Change Obstacle
exchange name old new tables = where_found (table_named name tables) (exchange_in name old new)

unfoldable pub removal : List ℕ → List Value → List Table → Result Change Obstacle
removal name row tables = where_found (table_named name tables) (removal_in name row)

-- what a call answers beside what storing a row comes to: the change was made to the tables, or nothing changed
abbrev pub Stores : {A : Type 0} → Result A RowRefusal → Result Change Obstacle → List Table → List Table → Type 0
Stores (Ok done) step old new = carried_out step old ≡ Some new
Stores (Err (Taken which)) step old new = (step ≡ Err (key_taken which)) × (new ≡ old)
Stores (Err Absent) step old new = (step ≡ Err row_absent) × (new ≡ old)
Stores (Err NoMemory) step old new = new ≡ old
