-- Rows by their numbers, and the numbers that are free again.
use Rattle.std.specs.Prelude.{◌≡◌, ◌≢◌, ℕ, suc, List, [], ◌∷◌, ◌++◌, length, slice_get, slice_set, Option, Some, None, nat_lt, if◌then◌else◌}
use Rattle.val_types.specs.declared.value.Value.{Value}

-- the row of each number, None where the number is free; and how many rows can be put without memory
pub record Arena : Type 0 where
  pub rows : List (Option (List Value))
  pub room : ℕ

-- a number is not among some
abbrev pub IsNotAmong : ℕ → List ℕ → Type 0
IsNotAmong number [] = Unit {0}
IsNotAmong number (n ∷ ns) = (number ≢ n) × IsNotAmong number ns

-- numbers are free, and none is there twice
abbrev pub AreFree : List (Option (List Value)) → List ℕ → Type 0
AreFree rows [] = Unit {0}
AreFree rows (n ∷ ns) = (slice_get rows n ≡ Some None) × IsNotAmong n ns × AreFree rows ns

-- how many rows there are
abbrev pub count : List (Option (List Value)) → ℕ
count [] = 0
count (None ∷ rows) = count rows
count (Some row ∷ rows) = suc (count rows)

-- a number that has no row: one that is free, or the next one
abbrev pub IsFree : List (Option (List Value)) → ℕ → Type 0
IsFree rows number = (row : List Value) → slice_get rows number ≢ Some (Some row)

-- the rows with one under a number that is free, or the next one
abbrev pub with_row_at : List (Option (List Value)) → ℕ → List Value → List (Option (List Value))
with_row_at rows number row = if nat_lt number (length rows) then slice_set rows number (Some row) else rows ++ Some row ∷ []
