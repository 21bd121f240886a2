-- What is done with the rows on a shelf, seen as what storing a row makes of the tables.
use Rattle.std.proofs.Common.{◌≡◌, ℕ, List, [], map, Bool, true, false, not, ◌&&◌, cond, Option, Some, None, Result, Ok, Err, refl, sym, ap, ◌∙◌}
use Rattle.std.specs.Prelude.{is_some}
use Rattle.std.specs.List.{list_any}
use Rattle.std.specs.Option.{option_map, option_map_or, option_and_then}
use Rattle.val_types.specs.declared.value.Value.{Value}
use Rattle.val_types.specs.declared.definitions.TableDef.{TableDef}
use Rattle.val_types.specs.declared.change.Change.{Change}
use Rattle.val_types.specs.declared.change.Change.TheVariants.{Insert, Update, Delete}
use Rattle.val_types.specs.Fitting.{row_fits}
use Rattle.val_types.specs.Keys.{primary_key, collide}
use Rattle.table_rules.specs.Tables.{Table}
use Rattle.table_rules.specs.Changes.{without, with_row, put, rows_after, table_after, applied}
use Rattle.val_types.specs.Changes.{table_of}
use Rattle.table_rules.specs.Stored.{table_named, row_of_key, row_at, rows_beside, key_in_way, Obstacle, row_absent, where_found, unless_taken, insertion, replacement, deletion, carried_out, fits_table, keys_at}
use Rattle.table_rules.proofs.Equations.{insertion_by, replacement_by, deletion_by, none_inserted, none_replaced, none_deleted}
use Rattle.table_rules.proofs.Storing.{keys_in_way, without_is_beside}
use Rattle.row_store.specs.declared.refusal.RowRefusal.{RowRefusal}
use Rattle.row_store.specs.declared.refusal.RowRefusal.TheVariants.{Taken, Absent, NoMemory}
use Rattle.row_store.specs.declared.shelf.Shelf.{Shelf}
use Rattle.table_sheet.specs.Pages.{rows_on}
use Rattle.row_store.specs.Shelves.{table_on, tables_on, Inserted, Replaced}
use Rattle.row_store.specs.Stores.{Stores}
use Rattle.row_store.proofs.Swapping.{shelf_named, swap, table_of_shelf, applied_swap, same_swap, same_name, kept_rows}

-- the table on the shelf of a name is the table of the name
pub table_found : (name : List ℕ) (ss : List Shelf) (s : Shelf) → shelf_named name ss ≡ Some s → table_named name (tables_on ss) ≡ Some (table_on s)
table_found name ss s e = table_of_shelf name ss ∙ ap (option_map table_on) e

pub no_table : (name : List ℕ) (ss : List Shelf) → shelf_named name ss ≡ None → table_named name (tables_on ss) ≡ None
no_table name ss e = table_of_shelf name ss ∙ ap (option_map table_on) e

pub same_table : (old new : Shelf) → same_name old new → rows_on new.sheet ≡ rows_on old.sheet → table_on new ≡ table_on old
same_table old new same rows =
    ap (λ (d : TableDef). record { definition = d; rows = rows_on new.sheet }) same
    ∙ ap (λ (r : List (List Value)). record { definition = old.sheet.definition; rows = r }) rows

new_table : (old new : Shelf) (change : Change) → same_name old new → rows_after old.sheet.definition change (rows_on old.sheet) ≡ Some (rows_on new.sheet) → table_after change (table_on old) ≡ Some (table_on new)
new_table old new change same made =
    ap (option_map (λ (rows : List (List Value)). record { definition = old.sheet.definition; rows = rows })) made
    ∙ ap (λ (d : TableDef). Some (record { definition = d; rows = rows_on new.sheet })) (sym same)

-- a change made to the rows on the shelf of its table is made to the tables
pub shelf_applied : (change : Change) (ss : List Shelf) (old new : Shelf) → shelf_named (table_of change) ss ≡ Some old → same_name old new
    → rows_after old.sheet.definition change (rows_on old.sheet) ≡ Some (rows_on new.sheet) → applied change (tables_on ss) ≡ Some (tables_on (swap (table_of change) new ss))
shelf_applied change ss old new found same made = applied_swap change old new ss found (new_table old new change same made)

-- where its rows stay, the tables do
pub shelf_same : (name : List ℕ) (ss : List Shelf) (old new : Shelf) → shelf_named name ss ≡ Some old → same_name old new → rows_on new.sheet ≡ rows_on old.sheet
    → tables_on (swap name new ss) ≡ tables_on ss
shelf_same name ss old new found same rows = same_swap name old new ss found (same_table old new same rows)

may_be_put : (d : TableDef) (row : List Value) (rows : List (List Value)) (fits taken : Bool) → fits ≡ true → taken ≡ false → cond (fits && not taken) (Some (with_row d row rows)) None ≡ Some (with_row d row rows)
may_be_put d row rows true true e f = cc
may_be_put d row rows true false e f = refl
may_be_put d row rows false taken e f = cc

put_made : (d : TableDef) (row : List Value) (rows : List (List Value)) → row_fits d.columns row ≡ true → key_in_way d row rows ≡ None → put d row rows ≡ Some (with_row d row rows)
put_made d row rows fits free =
    may_be_put d row rows (row_fits d.columns row) (list_any (collide d row) rows) fits (sym (keys_in_way d row rows) ∙ ap (λ (o : Option ℕ). is_some o) free)

-- ---- inserting

insertion_is : (name : List ℕ) (row : List Value) (ss : List Shelf) (old : Shelf) (o : Option ℕ) → shelf_named name ss ≡ Some old → key_in_way old.sheet.definition row (rows_on old.sheet) ≡ o
    → insertion name row (tables_on ss) ≡ unless_taken o (Insert name row)
insertion_is name row ss old o found way =
    insertion_by name row (tables_on ss) (Some (table_on old)) (table_found name ss old found)
    ∙ ap (λ (k : Option ℕ). unless_taken k (Insert name row)) way

pub insert_stored : (r : Result (Unit {0}) RowRefusal) (name : List ℕ) (row : List Value) (ss : List Shelf) (old new : Shelf)
    → shelf_named name ss ≡ Some old → same_name old new → row_fits old.sheet.definition.columns row ≡ true
    → Inserted r old.sheet.definition row (rows_on old.sheet) (rows_on new.sheet)
    → Stores r (insertion name row (tables_on ss)) (tables_on ss) (tables_on (swap name new ss))
insert_stored (Ok done) name row ss old new found same fits p =
    ap (λ (step : Result Change Obstacle). carried_out step (tables_on ss)) (insertion_is name row ss old None found p.0)
    ∙ shelf_applied (Insert name row) ss old new found same (put_made old.sheet.definition row (rows_on old.sheet) fits p.0 ∙ ap (λ (rows : List (List Value)). Some rows) (sym p.1))
insert_stored (Err (Taken which)) name row ss old new found same fits p =
    (insertion_is name row ss old (Some which) found p.0, shelf_same name ss old new found same p.1)
insert_stored (Err Absent) name row ss old new found same fits p = absurd p
insert_stored (Err NoMemory) name row ss old new found same fits p = shelf_same name ss old new found same p

pub nothing_inserted : (name : List ℕ) (row : List Value) (ss : List Shelf) → shelf_named name ss ≡ None → insertion name row (tables_on ss) ≡ Err row_absent
nothing_inserted name row ss e = none_inserted name row (tables_on ss) (no_table name ss e)

-- ---- replacing

some_row : (o : Option (List Value)) → is_some o ≡ true → (row : List Value) × (o ≡ Some row)
some_row None e = cc
some_row (Some row) e = (row, refl)

replacement_is : (name : List ℕ) (key row before : List Value) (ss : List Shelf) (old : Shelf) (o : Option ℕ) → shelf_named name ss ≡ Some old
    → row_of_key old.sheet.definition key (rows_on old.sheet) ≡ Some before → key_in_way old.sheet.definition row (rows_beside old.sheet.definition key (rows_on old.sheet)) ≡ o
    → replacement name key row (tables_on ss) ≡ unless_taken o (Update name before row)
replacement_is name key row before ss old o found is way =
    replacement_by name key row (tables_on ss) (Some (table_on old)) (table_found name ss old found)
    ∙ ap (λ (r : Option (List Value)). where_found r (λ before. unless_taken (key_in_way old.sheet.definition row (rows_beside old.sheet.definition key (rows_on old.sheet))) (Update name before row))) is
    ∙ ap (λ (k : Option ℕ). unless_taken k (Update name before row)) way

replacement_absent : (name : List ℕ) (key row : List Value) (ss : List Shelf) (old : Shelf) → shelf_named name ss ≡ Some old → row_of_key old.sheet.definition key (rows_on old.sheet) ≡ None
    → replacement name key row (tables_on ss) ≡ Err row_absent
replacement_absent name key row ss old found none =
    replacement_by name key row (tables_on ss) (Some (table_on old)) (table_found name ss old found)
    ∙ ap (λ (r : Option (List Value)). where_found r (λ before. unless_taken (key_in_way old.sheet.definition row (rows_beside old.sheet.definition key (rows_on old.sheet))) (Update name before row))) none

pub update_stored : (r : Result (Unit {0}) RowRefusal) (name : List ℕ) (key row : List Value) (ss : List Shelf) (old new : Shelf)
    → shelf_named name ss ≡ Some old → same_name old new → row_fits old.sheet.definition.columns row ≡ true
    → Replaced r old.sheet.definition key row (rows_on old.sheet) (rows_on new.sheet)
    → Stores r (replacement name key row (tables_on ss)) (tables_on ss) (tables_on (swap name new ss))
update_stored (Ok done) name key row ss old new found same fits p =
    let before = some_row (row_of_key old.sheet.definition key (rows_on old.sheet)) p.0 in
    let out : without before.0 (rows_on old.sheet) ≡ Some (rows_beside old.sheet.definition key (rows_on old.sheet)) =
    without_is_beside old.sheet.definition key before.0 (rows_on old.sheet) (kept_rows old) before.1 in
    ap (λ (step : Result Change Obstacle). carried_out step (tables_on ss)) (replacement_is name key row before.0 ss old None found before.1 p.1)
    ∙ shelf_applied (Update name before.0 row) ss old new found same
    (ap (option_and_then (put old.sheet.definition row)) out
    ∙ put_made old.sheet.definition row (rows_beside old.sheet.definition key (rows_on old.sheet)) fits p.1
    ∙ ap (λ (rows : List (List Value)). Some rows) (sym p.2))
update_stored (Err (Taken which)) name key row ss old new found same fits p =
    let before = some_row (row_of_key old.sheet.definition key (rows_on old.sheet)) p.0 in
    (replacement_is name key row before.0 ss old (Some which) found before.1 p.1, shelf_same name ss old new found same p.2)
update_stored (Err Absent) name key row ss old new found same fits p =
    (replacement_absent name key row ss old found p.0, shelf_same name ss old new found same p.1)
update_stored (Err NoMemory) name key row ss old new found same fits p = shelf_same name ss old new found same p

pub nothing_replaced : (name : List ℕ) (key row : List Value) (ss : List Shelf) → shelf_named name ss ≡ None → replacement name key row (tables_on ss) ≡ Err row_absent
nothing_replaced name key row ss e = none_replaced name key row (tables_on ss) (no_table name ss e)

-- ---- deleting

pub row_found : (name : List ℕ) (key : List Value) (ss : List Shelf) (old : Shelf) → shelf_named name ss ≡ Some old → row_at name key (tables_on ss) ≡ row_of_key old.sheet.definition key (rows_on old.sheet)
row_found name key ss old found = ap (option_and_then (λ (t : Table). row_of_key t.definition key t.rows)) (table_found name ss old found)

pub no_row_found : (name : List ℕ) (key : List Value) (ss : List Shelf) → shelf_named name ss ≡ None → row_at name key (tables_on ss) ≡ None
no_row_found name key ss e = ap (option_and_then (λ (t : Table). row_of_key t.definition key t.rows)) (no_table name ss e)

deletion_is : (name : List ℕ) (key : List Value) (ss : List Shelf) (old : Shelf) (o : Option (List Value)) → shelf_named name ss ≡ Some old → row_of_key old.sheet.definition key (rows_on old.sheet) ≡ o
    → deletion name key (tables_on ss) ≡ where_found o (λ row. Ok (Delete name row))
deletion_is name key ss old o found is =
    deletion_by name key (tables_on ss) (Some (table_on old)) (table_found name ss old found)
    ∙ ap (λ (r : Option (List Value)). where_found r (λ row. Ok (Delete name row))) is

pub delete_stored : (name : List ℕ) (key row : List Value) (ss : List Shelf) (old new : Shelf) → shelf_named name ss ≡ Some old → same_name old new
    → row_of_key old.sheet.definition key (rows_on old.sheet) ≡ Some row → rows_on new.sheet ≡ rows_beside old.sheet.definition key (rows_on old.sheet)
    → carried_out (deletion name key (tables_on ss)) (tables_on ss) ≡ Some (tables_on (swap name new ss))
delete_stored name key row ss old new found same is rows =
    ap (λ (step : Result Change Obstacle). carried_out step (tables_on ss)) (deletion_is name key ss old (Some row) found is)
    ∙ shelf_applied (Delete name row) ss old new found same
    (without_is_beside old.sheet.definition key row (rows_on old.sheet) (kept_rows old) is ∙ ap (λ (r : List (List Value)). Some r) (sym rows))

pub delete_absent : (name : List ℕ) (key : List Value) (ss : List Shelf) (old : Shelf) → shelf_named name ss ≡ Some old → row_of_key old.sheet.definition key (rows_on old.sheet) ≡ None
    → deletion name key (tables_on ss) ≡ Err row_absent
delete_absent name key ss old found none = deletion_is name key ss old None found none

pub nothing_deleted : (name : List ℕ) (key : List Value) (ss : List Shelf) → shelf_named name ss ≡ None → deletion name key (tables_on ss) ≡ Err row_absent
nothing_deleted name key ss e = none_deleted name key (tables_on ss) (no_table name ss e)

-- ---- what callers ask

pub fits_shelf : (name : List ℕ) (row : List Value) (ss : List Shelf) (old : Shelf) → shelf_named name ss ≡ Some old → fits_table name row (tables_on ss) ≡ true → row_fits old.sheet.definition.columns row ≡ true
fits_shelf name row ss old found fits =
    sym (ap (λ (o : Option Table). option_map_or (λ (t : Table). row_fits t.definition.columns row) o true) (table_found name ss old found)) ∙ fits

pub keys_found : (name : List ℕ) (ss : List Shelf) (old : Shelf) → shelf_named name ss ≡ Some old → keys_at name (tables_on ss) ≡ map (primary_key old.sheet.definition) (rows_on old.sheet)
keys_found name ss old found = ap (λ (o : Option Table). option_map_or (λ (t : Table). map (primary_key t.definition) t.rows) o []) (table_found name ss old found)

pub no_keys : (name : List ℕ) (ss : List Shelf) → shelf_named name ss ≡ None → keys_at name (tables_on ss) ≡ []
no_keys name ss e = ap (λ (o : Option Table). option_map_or (λ (t : Table). map (primary_key t.definition) t.rows) o []) (no_table name ss e)

pub shelf_fits : (name : List ℕ) (row : List Value) (ss : List Shelf) (old : Shelf) → shelf_named name ss ≡ Some old → fits_table name row (tables_on ss) ≡ row_fits old.sheet.definition.columns row
shelf_fits name row ss old found = ap (λ (o : Option Table). option_map_or (λ (t : Table). row_fits t.definition.columns row) o true) (table_found name ss old found)

pub none_fit : (name : List ℕ) (row : List Value) (ss : List Shelf) → shelf_named name ss ≡ None → fits_table name row (tables_on ss) ≡ true
none_fit name row ss e = ap (λ (o : Option Table). option_map_or (λ (t : Table). row_fits t.definition.columns row) o true) (no_table name ss e)
