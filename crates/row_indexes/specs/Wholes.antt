-- The indexes of all unique keys of a table, and what they owe.
use Rattle.std.specs.Prelude.{◌≡◌, ℕ, suc, true, false, cond, if◌then◌else◌, List, [], ◌∷◌, Option, Some, None, is_some}
use Rattle.std.specs.List.{list_any, list_all, AllByRecursion}
use Rattle.std.specs.Option.{option_map}
use Rattle.val_types.specs.declared.value.Value.{Value}
use Rattle.val_types.specs.declared.definitions.TableDef.{TableDef}
use Rattle.val_types.specs.declared.definitions.KeyDef.{KeyDef}
use Rattle.val_types.specs.Fitting.{is_null}
use Rattle.val_types.specs.Keys.{values_at, same_values}
use Rattle.table_rules.specs.Stored.{first_agreed}
use Rattle.row_sheets.specs.Slots.{Slot, held, keys_in, keys_rise, rows_in, drop_slot, has_own_key}
use Rattle.row_sheets.specs.Over.{over}
use Rattle.row_sheets.specs.Claims.{AreApart}
use Rattle.row_indexes.specs.Indexes.{IsIndexOf, found_in}
use Rattle.row_indexes.specs.IndexLaws.{by_values}

-- indexes of some unique keys, one of each in their order
abbrev pub AreIndexesOf : List KeyDef → List (List Slot) → List (List Value) → Type 0
AreIndexesOf [] indexes rows = indexes ≡ []
AreIndexesOf (unique ∷ uniques) [] rows = ⊥
AreIndexesOf (unique ∷ uniques) (index ∷ indexes) rows = IsIndexOf unique index rows × AreIndexesOf uniques indexes rows

-- the index once a row is put: as it is where the row has a NULL in the key
abbrev pub index_with : KeyDef → List Value → List Slot → List Slot
index_with unique row index = cond (list_any is_null (values_at unique.columns row)) index (over (by_values unique row) index)

-- and once it is taken out
abbrev pub index_without : KeyDef → List Value → List Slot → List Slot
index_without unique row index = cond (list_any is_null (values_at unique.columns row)) index (drop_slot (values_at unique.columns row) index)

-- the same of all indexes
abbrev pub all_with : List KeyDef → List Value → List (List Slot) → List (List Slot)
all_with [] row indexes = indexes
all_with (unique ∷ uniques) row [] = []
all_with (unique ∷ uniques) row (index ∷ indexes) = index_with unique row index ∷ all_with uniques row indexes

abbrev pub all_without : List KeyDef → List Value → List (List Slot) → List (List Slot)
all_without [] row indexes = indexes
all_without (unique ∷ uniques) row [] = []
all_without (unique ∷ uniques) row (index ∷ indexes) = index_without unique row index ∷ all_without uniques row indexes

-- the first of some unique keys, counted from 0, in which the indexes of entries and of committed rows find a row that agrees with another
abbrev pub first_found : TableDef → List KeyDef → List Value → List Slot → List Slot → Option ℕ
first_found definition [] row es cs = None
first_found definition (unique ∷ uniques) row es cs =
    if is_some (found_in definition unique (values_at unique.columns row) es cs) then Some 0
    else option_map suc (first_found definition uniques row es cs)

-- slots become others that differ at one key alone; both rise and have no two rows of the same values in any of some unique keys
pub record DifferInAll (uniques : List KeyDef) (key : List Value) (old new : List Slot) : Type 0 where
  pub old_rises : keys_rise (keys_in old) ≡ true
  pub new_rises : keys_rise (keys_in new) ≡ true
  pub old_apart : AllByRecursion (λ unique. AreApart unique old) uniques
  pub new_apart : AllByRecursion (λ unique. AreApart unique new) uniques
  pub beside : (other : List Value) → same_values other key ≡ false → held other new ≡ held other old

-- ---- laws

-- a row put where there was none
abbrev pub RowPutInAll : Type 0
RowPutInAll =
    (uniques : List KeyDef) (key row : List Value) (old new : List Slot) (indexes : List (List Slot)) → DifferInAll uniques key old new → ((other : List Value) → held key old ≡ Some (Some other) → ⊥) → held key new ≡ Some (Some row)
    → AreIndexesOf uniques indexes (rows_in old) → AreIndexesOf uniques (all_with uniques row indexes) (rows_in new)

-- a row taken out
abbrev pub RowTakenOfAll : Type 0
RowTakenOfAll =
    (uniques : List KeyDef) (key row : List Value) (old new : List Slot) (indexes : List (List Slot)) → DifferInAll uniques key old new → held key old ≡ Some (Some row) → ((other : List Value) → held key new ≡ Some (Some other) → ⊥)
    → AreIndexesOf uniques indexes (rows_in old) → AreIndexesOf uniques (all_without uniques row indexes) (rows_in new)

-- the first unique key in the way of a row
abbrev pub FirstInWay : Type 0
FirstInWay =
    (definition : TableDef) (uniques : List KeyDef) (row : List Value) (es cs : List Slot) → keys_rise (keys_in es) ≡ true → keys_rise (keys_in cs) ≡ true → list_all (has_own_key definition) cs ≡ true
    → AllByRecursion (λ unique. AreApart unique cs) uniques → AllByRecursion (λ unique. AreApart unique (over es cs)) uniques
    → first_found definition uniques row es cs ≡ first_agreed uniques row (rows_in (over es cs))
