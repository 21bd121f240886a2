-- What indexes of unique keys owe.
use Rattle.std.specs.Prelude.{◌≡◌, true, false, List, [], ◌∷◌, Some}
use Rattle.std.specs.List.{list_any, list_all}
use Rattle.val_types.specs.declared.value.Value.{Value}
use Rattle.val_types.specs.declared.definitions.TableDef.{TableDef}
use Rattle.val_types.specs.declared.definitions.KeyDef.{KeyDef}
use Rattle.val_types.specs.Fitting.{is_null}
use Rattle.val_types.specs.Keys.{values_at, same_values}
use Rattle.table_rules.specs.Stored.{row_of_values}
use Rattle.row_sheets.specs.Slots.{Slot, held, keys_in, keys_rise, rows_in, drop_slot, has_own_key}
use Rattle.row_sheets.specs.Over.{over}
use Rattle.row_sheets.specs.Claims.{AreApart}
use Rattle.row_indexes.specs.Indexes.{IsIndexOf, found_in}

-- slots become others that differ at one key alone; both rise and have no two rows of the same values
pub record DifferAt (unique : KeyDef) (key : List Value) (old new : List Slot) : Type 0 where
  pub old_rises : keys_rise (keys_in old) ≡ true
  pub new_rises : keys_rise (keys_in new) ≡ true
  pub old_apart : AreApart unique old
  pub new_apart : AreApart unique new
  pub beside : (other : List Value) → same_values other key ≡ false → held other new ≡ held other old

-- a slot of some values alone
abbrev pub by_values : KeyDef → List Value → List Slot
by_values unique row = record { key = values_at unique.columns row; row = Some row } ∷ []

-- a row put where there was none
abbrev pub RowPutInIndex : Type 0
RowPutInIndex =
    (unique : KeyDef) (key row : List Value) (old new index : List Slot) → DifferAt unique key old new → ((other : List Value) → held key old ≡ Some (Some other) → ⊥) → held key new ≡ Some (Some row)
    → IsIndexOf unique index (rows_in old) → list_any is_null (values_at unique.columns row) ≡ false → IsIndexOf unique (over (by_values unique row) index) (rows_in new)

-- one that has a NULL
abbrev pub NullPutInIndex : Type 0
NullPutInIndex =
    (unique : KeyDef) (key row : List Value) (old new index : List Slot) → DifferAt unique key old new → ((other : List Value) → held key old ≡ Some (Some other) → ⊥) → held key new ≡ Some (Some row)
    → IsIndexOf unique index (rows_in old) → list_any is_null (values_at unique.columns row) ≡ true → IsIndexOf unique index (rows_in new)

-- a row taken out
abbrev pub RowTakenOfIndex : Type 0
RowTakenOfIndex =
    (unique : KeyDef) (key row : List Value) (old new index : List Slot) → DifferAt unique key old new → held key old ≡ Some (Some row) → ((other : List Value) → held key new ≡ Some (Some other) → ⊥)
    → IsIndexOf unique index (rows_in old) → list_any is_null (values_at unique.columns row) ≡ false → IsIndexOf unique (drop_slot (values_at unique.columns row) index) (rows_in new)

-- one that has a NULL
abbrev pub NullTakenOfIndex : Type 0
NullTakenOfIndex =
    (unique : KeyDef) (key row : List Value) (old new index : List Slot) → DifferAt unique key old new → held key old ≡ Some (Some row) → ((other : List Value) → held key new ≡ Some (Some other) → ⊥)
    → IsIndexOf unique index (rows_in old) → list_any is_null (values_at unique.columns row) ≡ true → IsIndexOf unique index (rows_in new)

-- the row that is shown with some values: that of the entry that has them, else the committed one, where it has no entry
abbrev pub FoundInBoth : Type 0
FoundInBoth =
    (definition : TableDef) (unique : KeyDef) (values : List Value) (es cs : List Slot) → keys_rise (keys_in es) ≡ true → keys_rise (keys_in cs) ≡ true → list_all (has_own_key definition) cs ≡ true
    → AreApart unique cs → AreApart unique (over es cs) → found_in definition unique values es cs ≡ row_of_values unique values (rows_in (over es cs))

-- the index of no rows has none
abbrev pub NothingIndexed : Type 0
NothingIndexed = (unique : KeyDef) → IsIndexOf unique [] []
