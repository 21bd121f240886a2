-- Items with keys: found by a key, put in by order.
use Rattle.std.specs.Prelude.{◌≡◌, ℕ, suc, Bool, not, if◌then◌else◌, List, [], ◌∷◌, Option, Some, None}
use Rattle.std.specs.declared.cmp.Ordering.{Ordering}
use Rattle.std.specs.declared.cmp.Ordering.TheVariants.{Less}
use Rattle.std.specs.Ordering.{is_eq, is_lt}

module _ {X : Type 0} where
  -- how many items stand before the first that passes a test, or all where none does
  abbrev pub place : (X → Bool) → List X → ℕ
  place test [] = 0
  place test (x ∷ xs) = if test x then 0 else suc (place test xs)

  -- the first item that passes a test
  abbrev pub find_by : (X → Bool) → List X → Option X
  find_by test [] = None
  find_by test (x ∷ xs) = if test x then Some x else find_by test xs

  -- an item, where it passes a test
  abbrev pub kept : (X → Bool) → Option X → Option X
  kept test None = None
  kept test (Some x) = if test x then Some x else None

module _ {X K : Type 0} (R : K → K → Ordering) (key : X → K) where
  -- whether an item has a key
  abbrev pub has_key : K → X → Bool
  has_key k x = is_eq (R k (key x))

  -- whether an item stands before a key, and whether not
  abbrev pub is_before : K → X → Bool
  is_before k x = is_lt (R (key x) k)

  abbrev pub is_not_before : K → X → Bool
  is_not_before k x = not (is_before k x)

  -- all keys are above one
  abbrev pub Above : K → List X → Type 0
  Above k [] = Unit {0}
  Above k (x ∷ xs) = (R k (key x) ≡ Less) × Above k xs

  -- the keys rise strictly
  abbrev pub Rises : List X → Type 0
  Rises [] = Unit {0}
  Rises (x ∷ xs) = Above (key x) xs × Rises xs

  -- no two items have one key
  abbrev pub Apart : List X → Type 0
  Apart [] = Unit {0}
  Apart (x ∷ xs) = (find_by (has_key (key x)) xs ≡ None) × Apart xs

  -- the items with one put in by its key
  abbrev pub put : X → List X → List X
  put x [] = x ∷ []
  put x (y ∷ ys) = if is_not_before (key x) y then x ∷ y ∷ ys else y ∷ put x ys

  -- no two items have one key, and the second list has the same items in the order of their keys
  pub record IsIndexed (items sorted : List X) : Type 0 where
    pub apart : Apart items
    pub rising : Rises sorted
    pub same : (k : K) → find_by (has_key k) sorted ≡ find_by (has_key k) items
