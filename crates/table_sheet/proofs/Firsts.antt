-- The first values of keys that rise, and where a search by a lower end leads.
use Rattle.std.proofs.Common.{◌≡◌, ◌≢◌, ℕ, zero, suc, ◌<◌, List, [], ◌∷◌, take, Bool, true, false, not, ◌&&◌, cond, Option, Err, Ordering, Less, Equal, Greater, refl, sym, ap, ◌∙◌, arith}
use Rattle.std.specs.Prelude.{slice_index}
use Rattle.std.specs.List.{list_all}
use Rattle.std.specs.Ordering.{is_lt, is_ge, ordering_reverse, ordering_then}
use Rattle.std.specs.Cmp.Lexicographic.{slice_cmp}
use Rattle.std.proofs.lemmas.Bool.{and_from}
use Rattle.std.proofs.lemmas.Cmp.{tied_itself}
use Rattle.val_types.specs.declared.value.Value.{Value}
use Rattle.val_types.specs.declared.value.Value.TheVariants.{Null, Int, Text}
use Rattle.val_types.specs.Order.{value_order, key_order}
use Rattle.val_types.proofs.Values.{value_order_total, key_order_total}
use Rattle.value_ranges.specs.Ranges.{Bound, Range, is_from, is_to, is_in}
use Rattle.value_ranges.specs.Keys.{first_of}
use Rattle.value_ranges.proofs.Standing.{from_on}
use Rattle.row_index.specs.block_list.Layouts.{flat}
use Rattle.row_index.specs.block_list.Places.{AreInOrder}
use Rattle.row_index.specs.block_list.Spots.{place, IsFound}
use Rattle.row_index.specs.block_list.declared.spot.Spot.{Spot}
use Rattle.row_index.specs.row_sheets.Slots.{Slot}
use Rattle.row_index.specs.row_sheets.Orders.{slots_of, NumbersRise, by_key}
use Rattle.row_index.proofs.of_row_sheets.Over.{greater_below}
use Rattle.row_index.proofs.of_row_sheets.Orders.{in_order}
use Rattle.table_sheet.specs.Ranges.{slot_is_in, AreOutside, by_low}

-- ---- keys that rise begin with values that do not fall

null_first : (y : Value) → is_ge (value_order y Null) ≡ true
null_first Null = refl
null_first (Int n) = refl
null_first (Text t) = refl

turned : (x y : Value) (o : Ordering) → value_order x y ≡ o → is_ge (value_order y x) ≡ is_ge (ordering_reverse o)
turned x y o e = ap is_ge (value_order_total.antisymm y x) ∙ ap (λ (p : Ordering). is_ge (ordering_reverse p)) e

pub first_rises : (a b : List Value) → is_lt (key_order a b) ≡ true → is_ge (value_order (first_of b) (first_of a)) ≡ true
first_rises [] [] e = cc
first_rises [] (y ∷ ys) e = null_first y
first_rises (x ∷ xs) [] e = cc
first_rises (x ∷ xs) (y ∷ ys) e = at (value_order x y) refl e
  where
    at : (o : Ordering) → value_order x y ≡ o → is_lt (ordering_then o (slice_cmp value_order xs ys)) ≡ true → is_ge (value_order y x) ≡ true
    at Less is less = turned x y Less is
    at Equal is less = turned x y Equal is
    at Greater is less = cc

-- ---- in order

not_before : (inside : Bool) → cond inside Greater Less ≢ Less → inside ≡ true
not_before true e = refl
not_before false e = absurd (e refl)

-- numbers whose keys rise are in order for a lower end
pub ends_in_order : (slot_at : ℕ → Slot) (low : Option Bound) (numbers : List ℕ) → NumbersRise slot_at numbers → AreInOrder (by_low slot_at low) numbers
ends_in_order slot_at low numbers rises i j up within not_less =
    let here = (slot_at (slice_index numbers i)).key in
    let there = (slot_at (slice_index numbers j)).key in
    let same : by_key slot_at here (slice_index numbers i) ≡ Equal = tied_itself key_order_total here in
    let above : key_order there here ≡ Greater =
    in_order slot_at here numbers rises i j up within (λ e. let never : Equal ≡ Less = sym same ∙ e in cc) in
    let first : is_ge (value_order (first_of there) (first_of here)) ≡ true = first_rises here there (greater_below there here above) in
    ap (λ (b : Bool). cond b Greater Less) (from_on low (first_of here) (first_of there) first (not_before (is_from low (first_of here)) not_less))

-- ---- what stands before the spot

before_is : (inside : Bool) → cond inside Greater Less ≡ Less → inside ≡ false
before_is true e = cc
before_is false e = refl

not_in : (a b : Bool) → a ≡ false → not (a && b) ≡ true
not_in true b e = cc
not_in false b e = refl

module _ (slot_at : ℕ → Slot) (range : Range) where
  front_outside : (ns : List ℕ) (p : ℕ) → ((i : ℕ) → i < p → by_low slot_at range.low (slice_index ns i) ≡ Less) → AreOutside range (take p (slots_of slot_at ns))
  front_outside [] zero before = refl
  front_outside [] (suc p) before = refl
  front_outside (n ∷ ns) zero before = refl
  front_outside (n ∷ ns) (suc p) before =
      and_from (not (slot_is_in range (slot_at n))) (list_all (λ (slot : Slot). not (slot_is_in range slot)) (take p (slots_of slot_at ns)))
      (not_in (is_from range.low (first_of (slot_at n).key)) (is_to range.high (first_of (slot_at n).key)) (before_is (is_from range.low (first_of (slot_at n).key)) (before 0 (omega arith))))
      (front_outside ns p (λ i lt. before (suc i) (omega (arith, lt))))

-- no slot before the spot that a search by the lower end leads to is in the range
pub fronts_are_outside : (slot_at : ℕ → Slot) (range : Range) (blocks : List (List ℕ)) (spot : Spot) → IsFound (by_low slot_at range.low) blocks (Err spot)
    → AreOutside range (take (place blocks spot) (slots_of slot_at (flat blocks)))
fronts_are_outside slot_at range blocks spot found = front_outside slot_at range (flat blocks) (place blocks spot) found.0
