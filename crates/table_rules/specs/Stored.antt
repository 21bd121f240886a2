-- Rows by their keys; what storing a row comes to: a change, or what is in its way.
use Rattle.std.specs.Prelude.{◌≡◌, ℕ, suc, Bool, true, not, nat_eq, ◌&&◌, if◌then◌else◌, List, [], ◌∷◌, map, reverse, filter, Option, Some, None, Result, Ok, Err, is_some, is_ok, false, slice_index_or}
use Rattle.std.specs.List.{list_any, find}
use Rattle.std.specs.Option.{option_map, option_or, option_and_then, option_map_or}
use Rattle.std.specs.Cmp.Lexicographic.{pointwise}
use Rattle.val_types.specs.declared.value.Value.{Value}
use Rattle.val_types.specs.declared.change.Change.{Change}
use Rattle.val_types.specs.declared.change.Change.TheVariants.{Insert, Update, Delete}
use Rattle.val_types.specs.declared.definitions.KeyDef.{KeyDef}
use Rattle.val_types.specs.declared.definitions.TableDef.{TableDef}
use Rattle.val_types.specs.Fitting.{row_fits, is_null}
use Rattle.val_types.specs.Lookup.{change_first, remove_first}
use Rattle.val_types.specs.Keys.{values_at, primary_key, same_values, agree_on, collide}
use Rattle.table_rules.specs.Tables.{Table}
use Rattle.table_rules.specs.Changes.{applied, AreKept}
use Rattle.val_types.specs.Changes.{inverse}

-- ---- rows by their keys

-- whether a table has a name
abbrev pub has_name : List ℕ → Table → Bool
has_name name table = pointwise nat_eq name table.definition.name

-- the table of a name
abbrev pub table_named : List ℕ → List Table → Option Table
table_named name tables = find (has_name name) tables

-- whether a row has a primary key
abbrev pub has_key : TableDef → List Value → List Value → Bool
has_key definition key row = same_values key (primary_key definition row)

-- the row with a primary key
abbrev pub row_of_key : TableDef → List Value → List (List Value) → Option (List Value)
row_of_key definition key rows = find (has_key definition key) rows

-- the row with a primary key in the table of a name
abbrev pub row_at : List ℕ → List Value → List Table → Option (List Value)
row_at name key tables = option_and_then (λ table. row_of_key table.definition key table.rows) (table_named name tables)

-- the rows beside that with a primary key
abbrev pub rows_beside : TableDef → List Value → List (List Value) → List (List Value)
rows_beside definition key rows = filter (λ row. not (has_key definition key row)) rows

-- the first of some unique keys, counted from 0, on which a row agrees with one that is there
abbrev pub first_agreed : List KeyDef → List Value → List (List Value) → Option ℕ
first_agreed [] row rows = None
first_agreed (key ∷ keys) row rows =
    if list_any (λ other. agree_on row other key) rows then Some 0
    else option_map suc (first_agreed keys row rows)

-- the first key that a row has in common with one that is there: 0 is the primary key, then come the unique keys in order of definition
abbrev pub key_in_way : TableDef → List Value → List (List Value) → Option ℕ
key_in_way definition row rows =
    if list_any (has_key definition (primary_key definition row)) rows then Some 0
    else option_map suc (first_agreed definition.uniques row rows)

-- the row that has some values in the columns of a unique key, none where one of them is NULL
abbrev pub row_of_values : KeyDef → List Value → List (List Value) → Option (List Value)
row_of_values key values rows =
    find (λ row. not (list_any is_null values) && same_values values (values_at key.columns row)) rows

-- whether a row has a key of another one, key by key: the primary one first, then the unique ones in order of definition
abbrev pub key_tests : TableDef → List Value → List (List Value → Bool)
key_tests definition row = has_key definition (primary_key definition row) ∷ map (λ key other. agree_on row other key) definition.uniques

-- the row that has the first key in the way
abbrev pub row_by_tests : List (List Value → Bool) → List (List Value) → Option (List Value)
row_by_tests [] rows = None
row_by_tests (test ∷ tests) rows = option_or (find test rows) (row_by_tests tests rows)

abbrev pub row_in_way : TableDef → List Value → List (List Value) → Option (List Value)
row_in_way definition row rows = row_by_tests (key_tests definition row) rows

-- ---- storing a row

-- what is in the way of a change of one row: a row that has a key of it, or that there is no row to change
pub data Obstacle : Type 0 where
  key_taken : ℕ → Obstacle
  row_absent : Obstacle

-- what is made of a thing that was found; where it was not, it is absent
abbrev pub where_found : {A B : Type 0} → Option A → (A → Result B Obstacle) → Result B Obstacle
where_found None next = Err row_absent
where_found (Some a) next = next a

-- a change, unless a key is in its way
abbrev pub unless_taken : Option ℕ → Change → Result Change Obstacle
unless_taken None change = Ok change
unless_taken (Some which) change = Err (key_taken which)

-- the change that inserts a row into a table, or what is in its way
abbrev pub insertion_in : List ℕ → List Value → Table → Result Change Obstacle
insertion_in name row table = unless_taken (key_in_way table.definition row table.rows) (Insert name row)

-- the change that replaces the row of a key in a table: the row has to be there; then the keys of the rows beside it may be in the way
abbrev pub replacement_in : List ℕ → List Value → List Value → Table → Result Change Obstacle
replacement_in name key row table =
    where_found (row_of_key table.definition key table.rows) (λ before.
    unless_taken (key_in_way table.definition row (rows_beside table.definition key table.rows)) (Update name before row))

-- the change that deletes the row of a key from a table
abbrev pub deletion_in : List ℕ → List Value → Table → Result Change Obstacle
deletion_in name key table = where_found (row_of_key table.definition key table.rows) (λ row. Ok (Delete name row))

-- the same in the table of a name
unfoldable pub insertion : List ℕ → List Value → List Table → Result Change Obstacle
insertion name row tables = where_found (table_named name tables) (insertion_in name row)

unfoldable pub replacement : List ℕ → List Value → List Value → List Table → Result Change Obstacle
replacement name key row tables = where_found (table_named name tables) (replacement_in name key row)

unfoldable pub deletion : List ℕ → List Value → List Table → Result Change Obstacle
deletion name key tables = where_found (table_named name tables) (deletion_in name key)

-- the tables after what storing a row comes to, None where something is in the way
abbrev pub carried_out : Result Change Obstacle → List Table → Option (List Table)
carried_out (Ok change) tables = applied change tables
carried_out (Err obstacle) tables = None

-- the tables after some changes, one after the other
unfoldable pub all_applied : List Change → List Table → Option (List Table)
all_applied [] tables = Some tables
all_applied (change ∷ changes) tables = option_and_then (all_applied changes) (applied change tables)

-- the changes that take some changes back, the last one first
abbrev pub all_inverse : List Change → List Change
all_inverse changes = map inverse (reverse changes)

-- whether a row fits the table of a name, if there is one
abbrev pub fits_table : List ℕ → List Value → List Table → Bool
fits_table name row tables = option_map_or (λ table. row_fits table.definition.columns row) (table_named name tables) true

-- ---- whole tables

-- the primary keys of the rows in the table of a name, in the order of the rows
abbrev pub keys_at : List ℕ → List Table → List (List Value)
keys_at name tables = option_map_or (λ table. map (primary_key table.definition) table.rows) (table_named name tables) []

-- the rows of the table of a name
abbrev pub rows_of : List ℕ → List Table → List (List Value)
rows_of name tables = option_map_or (λ table. table.rows) (table_named name tables) []

-- the tables without that of a name
abbrev pub tables_beside : List ℕ → List Table → List Table
tables_beside name tables = remove_first (has_name name) tables

-- the tables, that of a name without rows
abbrev pub tables_cleared : List ℕ → List Table → List Table
tables_cleared name tables = change_first (has_name name) (λ table. record table { rows = [] }) tables

-- ---- laws

-- a key is in the way just where a row has a key in common with one that is there
abbrev pub KeysInWay : Type 0
KeysInWay =
    (definition : TableDef) (row : List Value) (rows : List (List Value))
    → is_some (key_in_way definition row rows) ≡ list_any (collide definition row) rows

-- the row in the way is the first that has the first key in the way
abbrev pub has_key_in_way : TableDef → List Value → ℕ → List Value → Bool
has_key_in_way definition row which = slice_index_or (key_tests definition row) which (λ other. false)

abbrev pub RowInWay : Type 0
RowInWay =
    (definition : TableDef) (row : List Value) (rows : List (List Value))
    → row_in_way definition row rows ≡ option_and_then (λ which. find (has_key_in_way definition row which) rows) (key_in_way definition row rows)

-- a row that fits its table is inserted just where the change can be made
abbrev pub InsertsWhereApplied : Type 0
InsertsWhereApplied =
    (name : List ℕ) (row : List Value) (tables : List Table) → fits_table name row tables ≡ true
    → is_ok (insertion name row tables) ≡ is_some (applied (Insert name row) tables)

-- a row that is there is replaced by one that fits just where the change can be made
abbrev pub ReplacesWhereApplied : Type 0
ReplacesWhereApplied =
    (name : List ℕ) (key before row : List Value) (tables : List Table)
    → AreKept tables → fits_table name row tables ≡ true → row_at name key tables ≡ Some before
    → is_ok (replacement name key row tables) ≡ is_some (applied (Update name before row) tables)

-- a row that is there can be taken out
abbrev pub DeletesWhatIsThere : Type 0
DeletesWhatIsThere =
    (name : List ℕ) (key row : List Value) (tables : List Table)
    → row_at name key tables ≡ Some row → is_some (applied (Delete name row) tables) ≡ true

-- a change leaves the definitions of the tables
abbrev pub DefinitionsStay : Type 0
DefinitionsStay =
    (change : Change) (tables after : List Table) → applied change tables ≡ Some after
    → map (λ table. table.definition) after ≡ map (λ table. table.definition) tables

-- changes that can be made leave tables that hold what they have to, and are taken back by their inverses, the last one first
abbrev pub AllTurnBack : Type 0
AllTurnBack =
    (changes : List Change) (tables after : List Table) → AreKept tables → all_applied changes tables ≡ Some after
    → (all_applied (all_inverse changes) after ≡ Some tables) × AreKept after
