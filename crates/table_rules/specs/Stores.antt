-- Tables with the keys that are kept for taking changes back, the rows that are there to stay, and when changes can be taken back.
use Rattle.std.specs.Prelude.{◌≡◌, ℕ, ◌≤◌, Bool, true, false, not, ◌&&◌, nat_eq, is_some, if◌then◌else◌, List, [], ◌∷◌, map, Option, Some, position, slice_get, IsTrue}
use Rattle.std.specs.List.{list_any, list_all}
use Rattle.std.specs.Option.{option_map, option_map_or}
use Rattle.std.specs.Cmp.Lexicographic.{pointwise}
use Rattle.val_types.specs.declared.value.Value.{Value}
use Rattle.val_types.specs.declared.change.Change.{Change}
use Rattle.val_types.specs.declared.change.Change.TheVariants.{Insert, Update, Delete}
use Rattle.val_types.specs.declared.definitions.TableDef.{TableDef}
use Rattle.val_types.specs.Changes.{inverse}
use Rattle.val_types.specs.Fitting.{row_fits}
use Rattle.val_types.specs.Keys.{primary_key, same_values}
use Rattle.table_rules.specs.Tables.{Table}
use Rattle.table_rules.specs.Changes.{AreKept}
use Rattle.table_rules.specs.Stored.{has_name, table_named, fits_table, all_applied, all_inverse}

-- Tables as they are shown; for each of them, in their order, the keys that are kept: a row of such a key can be put and taken out
-- without memory; the same tables with the rows that are there to stay; and for how many new rows each has room.
pub record Store : Type 0 where
  pub tables : List Table
  pub kept : List (List (List Value))
  pub committed : List Table
  pub room : List ℕ

-- ---- names and definitions

-- the place of the table of a name
abbrev pub place_of : List ℕ → List Table → Option ℕ
place_of name tables = position (has_name name) tables

-- the definitions of tables, in their order
abbrev pub definitions_of : List Table → List TableDef
definitions_of tables = map (λ table. table.definition) tables

-- whether no two definitions are of the same name
abbrev pub names_differ : List TableDef → Bool
names_differ [] = true
names_differ (first ∷ rest) = not (list_any (λ other. pointwise nat_eq first.name other.name) rest) && names_differ rest

-- whether a row fits the table at a place, if there is one
abbrev pub fits_at : ℕ → List Value → List Table → Bool
fits_at at row tables = option_map_or (λ table. row_fits table.definition.columns row) (slice_get tables at) true

-- ---- keys that are kept

-- whether a key is among some
abbrev pub is_among : List Value → List (List Value) → Bool
is_among key keys = list_any (same_values key) keys

-- whether the primary key of a row is among those that are kept for the first table of a name
abbrev pub kept_among : List ℕ → List Value → List Table → List (List (List Value)) → Bool
kept_among name row [] kept = false
kept_among name row (table ∷ tables) [] = false
kept_among name row (table ∷ tables) (keys ∷ kept) =
    if has_name name table then is_among (primary_key table.definition row) keys
    else kept_among name row tables kept

-- whether the primary key of a row is kept in the table of a name, so that a change can put the row there, and take it out, without memory
unfoldable pub keeps : Store → List ℕ → List Value → Bool
keeps store name row = kept_among name row store.tables store.kept

-- what holds of all that is stored: the rows of each table are as they have to be, no two tables have the same name, and the rows
-- that are there to stay are in tables of the same definitions, and as they have to be
pub record IsWhole (store : Store) : Type 0 where
  pub rows : AreKept store.tables
  pub names : IsTrue (names_differ (definitions_of store.tables))
  pub committed : AreKept store.committed
  pub same : definitions_of store.committed ≡ definitions_of store.tables

-- whether the keys of the rows that a change puts and takes out are kept
abbrev pub keeps_put : Store → Change → Bool
keeps_put store (Insert name row) = keeps store name row
keeps_put store (Update name before after) = keeps store name before && keeps store name after
keeps_put store (Delete name row) = keeps store name row

-- each key that was kept is kept still
abbrev pub KeepsAll : Store → Store → Type 0
KeepsAll old new = (name : List ℕ) (row : List Value) → keeps old name row ≡ true → keeps new name row ≡ true

-- just the same keys are kept
abbrev pub KeepsSame : Store → Store → Type 0
KeepsSame old new = (name : List ℕ) (row : List Value) → keeps new name row ≡ keeps old name row

-- the keys of all tables but one are kept as before
abbrev pub KeepsBeside : List ℕ → Store → Store → Type 0
KeepsBeside name old new =
    (other : List ℕ) (row : List Value) → pointwise nat_eq name other ≡ false → keeps new other row ≡ keeps old other row

-- ---- rows that are there to stay

-- each number is no less than the one at its place, and there are as many
abbrev pub AreNoLess : List ℕ → List ℕ → Type 0
AreNoLess [] [] = Unit {0}
AreNoLess [] (new ∷ news) = ⊥
AreNoLess (old ∷ olds) [] = ⊥
AreNoLess (old ∷ olds) (new ∷ news) = (old ≤ new) × AreNoLess olds news

-- the rows that are there to stay are the same, and for each table there is no less room: what was set aside of one can be put back
-- into the other
pub record Still (old new : Store) : Type 0 where
  pub committed : new.committed ≡ old.committed
  pub room : AreNoLess old.room new.room

-- ---- changes that can be taken back

-- whether the rows that taking some changes back puts and takes out have keys that are kept
abbrev pub keeps_inverses : Store → List Change → Bool
keeps_inverses store changes = list_all (λ change. keeps_put store (inverse change)) changes

-- whether some changes can be taken back from what is stored, the last one first, without memory
unfoldable pub can_take_back : Store → List Change → Bool
can_take_back store changes = is_some (all_applied (all_inverse changes) store.tables) && keeps_inverses store changes

-- ---- laws

-- the table at the place of a name is the table of the name
abbrev pub PlaceIsOfName : Type 0
PlaceIsOfName =
    (name : List ℕ) (tables : List Table) (at : ℕ) → place_of name tables ≡ Some at → slice_get tables at ≡ table_named name tables

-- its definition has the name
abbrev pub PlaceHasName : Type 0
PlaceHasName =
    (name : List ℕ) (tables : List Table) (at : ℕ) → place_of name tables ≡ Some at
    → option_map (λ definition. definition.name) (slice_get (definitions_of tables) at) ≡ Some name

-- so a row fits by the place where it fits by the name
abbrev pub FitsByPlace : Type 0
FitsByPlace =
    (name : List ℕ) (row : List Value) (tables : List Table) (at : ℕ) → place_of name tables ≡ Some at → fits_at at row tables ≡ fits_table name row tables

-- places stay where definitions do
abbrev pub PlacesStay : Type 0
PlacesStay =
    (name : List ℕ) (old new : List Table) → definitions_of new ≡ definitions_of old → place_of name new ≡ place_of name old
