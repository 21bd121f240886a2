-- Where what is looked for stands, or belongs.
use Rattle.std.specs.Prelude.{◌≡◌, ◌≢◌, ◌<◌, ◌≤◌, ℕ, List, length, slice_index, Result, Ok, Err}
use Rattle.std.specs.declared.cmp.Ordering.{Ordering}
use Rattle.std.specs.declared.cmp.Ordering.TheVariants.{Less, Equal, Greater}

-- a comparison gives what an order says
abbrev pub Computes : (ℕ → Ordering → Type 0) → (ℕ → Ordering) → Type 0
Computes post order = (number : ℕ) (answer : Ordering) → post number answer → answer ≡ order number

-- first stand those that are less, then one at most that is equal, then those that are greater
abbrev pub AreParted : (ℕ → Ordering) → ℕ → Type 0
AreParted order count = (i j : ℕ) → i < j → j < count → order i ≢ Less → order j ≡ Greater

-- the place of the one that is equal, or the one at which it belongs
abbrev pub IsPlace : (ℕ → Ordering) → ℕ → Result ℕ ℕ → Type 0
IsPlace order count (Ok at) = (at < count) × (order at ≡ Equal)
IsPlace order count (Err at) =
    (at ≤ count) × ((i : ℕ) → i < at → order i ≡ Less) × ((i : ℕ) → at ≤ i → i < count → order i ≡ Greater)

-- numbers in the order of what is asked
abbrev pub AreInOrder : (ℕ → Ordering) → List ℕ → Type 0
AreInOrder order numbers = AreParted (λ i. order (slice_index numbers i)) (length numbers)
