-- The order of values and of keys: total, and equal just at equal values.
use Rattle.std.proofs.Common.{◌≡◌, ℕ, ℤ, pos, List, [], Ordering, Less, Equal, Greater, refl, ap, sym, subst}
use Rattle.std.specs.Ordering.{ordering_then, then_cmp, on, nat_cmp, int_cmp}
use Rattle.std.specs.Cmp.{IsTotalOrder}
use Rattle.std.specs.Cmp.Lexicographic.{slice_cmp}
use Rattle.std.proofs.lemmas.Cmp.{tied_itself, nat_cmp_total, int_cmp_total, nat_list_cmp_total, lists_total, on_total, then_total}
use Rattle.std.proofs.lemmas.Map.Lookups.{exact_bytes, exact_signed}
use Rattle.val_types.specs.declared.value.Value.{Value}
use Rattle.val_types.specs.declared.value.Value.TheVariants.{Null, Int, Text}
use Rattle.val_types.specs.Order.{value_order, key_order}
use Rattle.val_types.proofs.Lists.{list_exact}

pub value_exact : (a b : Value) → value_order a b ≡ Equal → a ≡ b
value_exact Null Null e = refl
value_exact Null (Int n) e = cc
value_exact Null (Text t) e = cc
value_exact (Int m) Null e = cc
value_exact (Int m) (Int n) e = ap Int (exact_signed m n e)
value_exact (Int m) (Text t) e = cc
value_exact (Text s) Null e = cc
value_exact (Text s) (Int n) e = cc
value_exact (Text s) (Text t) e = ap Text (exact_bytes s t e)

pub key_exact : (a b : List Value) → key_order a b ≡ Equal → a ≡ b
key_exact = list_exact value_order value_exact

-- ---- the order of values as three orders, one after the other

abbrev kind : Value → ℕ
kind Null = 0
kind (Int n) = 1
kind (Text t) = 2

abbrev number : Value → ℤ
number Null = pos 0
number (Int n) = n
number (Text t) = pos 0

abbrev bytes : Value → List ℕ
bytes Null = []
bytes (Int n) = []
bytes (Text t) = t

abbrev by_parts : Value → Value → Ordering
by_parts = then_cmp (on kind nat_cmp) (then_cmp (on number int_cmp) (on bytes (slice_cmp nat_cmp)))

nothing_more : (o : Ordering) → o ≡ ordering_then o Equal
nothing_more Less = refl
nothing_more Equal = refl
nothing_more Greater = refl

in_parts : (a b : Value) → by_parts a b ≡ value_order a b
in_parts Null Null = refl
in_parts Null (Int n) = refl
in_parts Null (Text t) = refl
in_parts (Int m) Null = refl
in_parts (Int m) (Int n) = sym (nothing_more (int_cmp m n))
in_parts (Int m) (Text t) = refl
in_parts (Text s) Null = refl
in_parts (Text s) (Int n) = refl
in_parts (Text s) (Text t) = refl

pub value_order_total : IsTotalOrder value_order
value_order_total = subst (λ (R : Value → Value → Ordering). IsTotalOrder R) (λ i a b. in_parts a b i)
    (then_total (on_total kind nat_cmp_total) (then_total (on_total number int_cmp_total) (on_total bytes nat_list_cmp_total)))

pub key_order_total : IsTotalOrder key_order
key_order_total = lists_total value_order_total

pub key_tied : (a b : List Value) → a ≡ b → key_order a b ≡ Equal
key_tied a b e = subst (λ (c : List Value). key_order a c ≡ Equal) e (tied_itself key_order_total a)
