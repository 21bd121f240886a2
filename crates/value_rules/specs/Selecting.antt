-- What SELECT makes of the rows that WHERE keeps: their order, a part of them, and aggregates.
use Rattle.std.specs.Prelude.{◌≡◌, ℕ, Bool, true, false, not, ◌&&◌, ◌||◌, if◌then◌else◌, List, [], ◌∷◌, length, take, drop, filter, slice_index_or, Result, Ok, Err, ℤ, pos, ◌+ℤ◌, IsTrue}
use Rattle.std.specs.List.{list_all, list_any, Contains}
use Rattle.std.specs.List.Sorted.{IsPermutation, IsStableBy}
use Rattle.std.specs.declared.cmp.Ordering.{Ordering}
use Rattle.std.specs.declared.cmp.Ordering.TheVariants.{Equal}
use Rattle.std.specs.Ordering.{is_lt, on, flip_args, then_cmp}
use Rattle.val_types.specs.declared.value.Value.{Value}
use Rattle.val_types.specs.declared.value.Value.TheVariants.{Null, Int, Text}
use Rattle.val_types.specs.declared.ops.Agg.{Agg}
use Rattle.val_types.specs.declared.ops.Agg.TheVariants.{Count, Sum, Min, Max}
use Rattle.val_types.specs.Order.{value_order}
use Rattle.val_types.specs.Errors.{kinds_mixed}
use Rattle.val_types.specs.Fitting.{is_null}
use Rattle.value_rules.specs.Operators.{number}

-- ---- ORDER BY

-- how two values of an item stand, the other way round where it is descending
abbrev pub directed : Bool → Value → Value → Ordering
directed false = value_order
directed true = flip_args value_order

-- the first value, NULL where there is none
abbrev pub first_value : List Value → Value
first_value vs = slice_index_or vs 0 Null

-- how two rows stand by the values of their items, of which the first that differ decide
abbrev pub by_items : List Bool → List Value → List Value → Ordering
by_items [] a b = Equal
by_items (down ∷ downs) a b = then_cmp (on first_value (directed down)) (on (drop 1) (by_items downs)) a b

module _ {X : Type 0} (before : X → X → Bool) where
  -- an element put in front of the first that does not come before it
  abbrev pub put_in_order : X → List X → List X
  put_in_order x [] = x ∷ []
  put_in_order x (y ∷ ys) = if before y x then y ∷ put_in_order x ys else x ∷ y ∷ ys

  -- the elements in order; those of which neither comes before the other stay as they stand
  abbrev pub in_order : List X → List X
  in_order [] = []
  in_order (x ∷ xs) = put_in_order x (in_order xs)

module _ {X : Type 0} (key : X → List Value) (downs : List Bool) where
  -- whether a row comes before another by the values of its items
  abbrev pub key_before : X → X → Bool
  key_before a b = is_lt (by_items downs (key a) (key b))

-- ---- LIMIT

-- the elements behind so many, and of these at most so many
abbrev pub cut : {X : Type 0} → ℕ → ℕ → List X → List X
cut skip count xs = take count (drop skip xs)

-- ---- aggregates

abbrev pub is_number : Value → Bool
is_number Null = false
is_number (Int n) = true
is_number (Text t) = false

abbrev pub is_text : Value → Bool
is_text Null = false
is_text (Int n) = false
is_text (Text t) = true

-- how many values are not NULL
abbrev pub known_count : List Value → ℕ
known_count vs = length (filter (λ v. not (is_null v)) vs)

-- the number that a value adds to a sum: 0 for NULL
abbrev pub addend : Value → ℤ
addend Null = pos 0
addend (Int n) = n
addend (Text t) = pos 0

-- the exact sum of the numbers among some values
abbrev pub total : List Value → ℤ
total [] = pos 0
total (v ∷ vs) = addend v +ℤ total vs

-- SUM: a text is an error, and the sum of no number NULL
abbrev pub sum_of : List Value → Result Value ℕ
sum_of vs =
    if list_any is_text vs then Err kinds_mixed
    else if list_any is_number vs then number (total vs) else Ok Null

-- the better of the best value so far, NULL at first, and a further one; a NULL is passed over
abbrev pub better : (Value → Value → Bool) → Value → Value → Value
better before best v = if is_null v then best else if is_null best || before v best then v else best

-- the best of all
abbrev pub extreme : (Value → Value → Bool) → Value → List Value → Value
extreme before best [] = best
extreme before best (v ∷ vs) = extreme before (better before best v) vs

-- MIN and MAX: numbers and texts among each other are an error
abbrev pub extreme_of : (Value → Value → Bool) → List Value → Result Value ℕ
extreme_of before vs =
    if list_any is_text vs && list_any is_number vs then Err kinds_mixed
    else Ok (extreme before Null vs)

-- whether a value comes before another: the lower one for the lowest, the higher one for the highest
abbrev pub comes_first : Bool → Value → Value → Bool
comes_first false a b = is_lt (value_order a b)
comes_first true a b = is_lt (value_order b a)

-- an aggregate of the values that its argument has in the rows
abbrev pub aggregate_value : Agg → List Value → Result Value ℕ
aggregate_value Count vs = Ok (Int (pos (known_count vs)))
aggregate_value Sum vs = sum_of vs
aggregate_value Min vs = extreme_of (comes_first false) vs
aggregate_value Max vs = extreme_of (comes_first true) vs

-- ---- laws

module _ {X : Type 0} (before : X → X → Bool) where
  -- whether none of some elements comes before a first one
  abbrev pub comes_first_of : X → List X → Bool
  comes_first_of x xs = list_all (λ later. not (before later x)) xs

  -- whether none comes before one that stands before it
  abbrev pub stand_in_order : List X → Bool
  stand_in_order [] = true
  stand_in_order (x ∷ xs) = comes_first_of x xs && stand_in_order xs

  -- sorting: the same elements, none of which comes before one that stands before it; those of which neither comes before
  -- the other stand as they stood
  pub record IsSorting (xs ys : List X) : Type 0 where
    pub same : IsPermutation xs ys
    pub ordered : IsTrue (stand_in_order ys)
    pub as_they_stood : IsStableBy before xs ys

-- ORDER BY sorts rows, whatever a row is beside the values of its items
abbrev pub OrderSorts : {X : Type 0} → (X → List Value) → Type 0
OrderSorts {X} key = (downs : List Bool) (rows : List X) → IsSorting (key_before key downs) rows (in_order (key_before key downs) rows)

-- the best of some values: one of those that are not NULL, before which none of these comes; NULL where all are
pub record IsBest (before : Value → Value → Bool) (vs : List Value) (best : Value) : Type 0 where
  pub known : best ≡ Null → IsTrue (list_all is_null vs)
  pub among : IsTrue (not (is_null best)) → Contains vs best
  pub first : IsTrue (list_all (λ v. is_null v || not (before v best)) vs)

-- MIN is the lowest value and MAX the highest
pub record ExtremesAreBest : Type 0 where
  pub least : (vs : List Value) (best : Value) → aggregate_value Min vs ≡ Ok best → IsBest (comes_first false) vs best
  pub greatest : (vs : List Value) (best : Value) → aggregate_value Max vs ≡ Ok best → IsBest (comes_first true) vs best
