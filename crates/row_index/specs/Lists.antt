-- The lists of all unique keys of a table, one a key in the order of definition.
use Rattle.std.specs.Prelude.{◌≡◌, ℕ, zero, suc, ◌≤◌, List, [], ◌∷◌, slice_get, Option, Some}
use Rattle.val_types.specs.declared.value.Value.{Value}
use Rattle.val_types.specs.declared.definitions.KeyDef.{KeyDef}
use Rattle.block_list.specs.Layouts.{Layout, flat, holds}
use Rattle.row_indexes.specs.Indexes.{IsIndexOf}
use Rattle.row_index.specs.Numbers.{number_slots, CanPut, IsPut, IsTaken}

-- no numbers
abbrev pub nothing : Layout
nothing = record { blocks = []; spares = 0 }

-- the list of a unique key by its number; one that is not there is empty
abbrev pub list_at : List Layout → ℕ → Layout
list_at [] which = nothing
list_at (l ∷ ls) zero = l
list_at (l ∷ ls) (suc which) = list_at ls which

-- the numbers in it
abbrev pub numbers_at : List Layout → ℕ → List ℕ
numbers_at lists which = flat (list_at lists which).blocks

-- the same is so of each unique key by its number
abbrev pub OfEach : List KeyDef → (ℕ → KeyDef → Type 0) → Type 0
OfEach uniques Holds = (which : ℕ) (key : KeyDef) → slice_get uniques which ≡ Some key → Holds which key

-- all lists are indexes of some rows
abbrev pub AreIndexes : List KeyDef → (ℕ → Option (List Value)) → List Layout → List (List Value) → Type 0
AreIndexes uniques row_at lists rows = OfEach uniques (λ which key. IsIndexOf key (number_slots key row_at (numbers_at lists which)) rows)

-- all lists hold so many numbers
abbrev pub AllHold : List KeyDef → List Layout → ℕ → Type 0
AllHold uniques lists count = OfEach uniques (λ which key. count ≤ holds (list_at lists which))

-- one more number can be put into each list
abbrev pub CanPutInAll : List KeyDef → (ℕ → Option (List Value)) → List Layout → Type 0
CanPutInAll uniques row_at lists = OfEach uniques (λ which key. CanPut key row_at (list_at lists which))

-- the number of a row is put into each, and taken out of each
abbrev pub IsPutInAll : List KeyDef → (ℕ → Option (List Value)) → List Value → List Layout → List Layout → Type 0
IsPutInAll uniques row_at row old new = OfEach uniques (λ which key. IsPut key row_at row (list_at old which) (list_at new which))

abbrev pub IsTakenOfAll : List KeyDef → (ℕ → Option (List Value)) → List Value → List Layout → List Layout → Type 0
IsTakenOfAll uniques row_at row old new = OfEach uniques (λ which key. IsTaken key row_at row (list_at old which) (list_at new which))

-- the lists have the same numbers, and none holds less
pub record KeepsNumbers (old new : List Layout) : Type 0 where
  pub numbers : (which : ℕ) → numbers_at new which ≡ numbers_at old which
  pub holds : (which : ℕ) → holds (list_at old which) ≤ holds (list_at new which)
