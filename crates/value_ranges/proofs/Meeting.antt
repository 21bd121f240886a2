-- A value is in two ranges that are met just where it is in both.
use Rattle.std.proofs.Common.{◌≡◌, Bool, true, false, ◌&&◌, cond, Option, Some, None, Ordering, Less, Equal, Greater, refl, sym, ap, ◌∙◌}
use Rattle.std.specs.Ordering.{is_lt, is_le, is_gt, is_ge, ordering_reverse}
use Rattle.std.specs.Cmp.{IsTotalOrder}
use Rattle.std.proofs.lemmas.Cmp.{back_total, tied_back}
use Rattle.val_types.specs.declared.value.Value.{Value}
use Rattle.val_types.specs.Order.{value_order}
use Rattle.val_types.proofs.Values.{value_order_total}
use Rattle.value_ranges.specs.Ranges.{Bound, is_above, is_below, is_from, is_to, met_low, met_high, RangesMeet}

-- ---- an end in an order, from which those that are above are in a range

-- whether what stands so to an end is on its inner side
abbrev pub reaches : Bool → Ordering → Bool
reaches among o = cond among (is_ge o) (is_gt o)

module _ {K : Type 0} (R : K → K → Ordering) (o : IsTotalOrder R) where
  turned : (x y : K) (p q : Ordering) → R x y ≡ p → ordering_reverse p ≡ q → R y x ≡ q
  turned x y p q e turn = o.antisymm y x ∙ ap ordering_reverse e ∙ turn

  greater_both : (x y z : K) → R x y ≡ Greater → R y z ≡ Greater → R x z ≡ Greater
  greater_both x y z e f = turned z x Less Greater (o.trans z y x (turned y z Greater Less f refl) (turned x y Greater Less e refl)) refl

  greater_equal : (x y z : K) → R x y ≡ Greater → R y z ≡ Equal → R x z ≡ Greater
  greater_equal x y z e f = turned z x Less Greater (sym (o.congr y z x f) ∙ turned x y Greater Less e refl) refl

  -- what is above an end that is above another is above that
  pub above_on : (a b : Bool) (v w u : K) → reaches b (R v w) ≡ true → reaches a (R w u) ≡ true → reaches a (R v u) ≡ true
  above_on a b v w u first second = by (R v w) (R w u) refl refl first second
    where
      greater_is : (a : Bool) → R v u ≡ Greater → reaches a (R v u) ≡ true
      greater_is true e = ap is_ge e
      greater_is false e = ap is_gt e

      none_true : (c : Bool) → reaches c Less ≡ true → ⊥
      none_true true e = cc
      none_true false e = cc

      by : (p q : Ordering) → R v w ≡ p → R w u ≡ q → reaches b p ≡ true → reaches a q ≡ true → reaches a (R v u) ≡ true
      by Less q e f g h = absurd (none_true b g)
      by Equal q e f g h = ap (reaches a) (o.congr v w u e ∙ f) ∙ h
      by Greater Less e f g h = absurd (none_true a h)
      by Greater Equal e f g h = greater_is a (greater_equal v w u e f)
      by Greater Greater e f g h = greater_is a (greater_both v w u e f)

  -- what is above an end is above one that is not on its inner side
  pub above_off : (a b : Bool) (v w u : K) → reaches a (R w u) ≡ false → reaches a (R v u) ≡ true → reaches b (R v w) ≡ true
  above_off a b v w u none there = by (R w u) (R v u) refl refl none there
    where
      greater_is : (b : Bool) → R v w ≡ Greater → reaches b (R v w) ≡ true
      greater_is true e = ap is_ge e
      greater_is false e = ap is_gt e

      by : (p q : Ordering) → R w u ≡ p → R v u ≡ q → reaches a p ≡ false → reaches a q ≡ true → reaches b (R v w) ≡ true
      by Less Less e f g h = both_less a h
        where
          both_less : (a : Bool) → reaches a Less ≡ true → reaches b (R v w) ≡ true
          both_less true h = cc
          both_less false h = cc
      by Less Equal e f g h = greater_is b (o.congr v u w f ∙ turned w u Less Greater e refl)
      by Less Greater e f g h = greater_is b (greater_both v u w f (turned w u Less Greater e refl))
      by Equal q e f g h = at_end a q e f g h
        where
          at_end : (a : Bool) (q : Ordering) → R w u ≡ Equal → R v u ≡ q → reaches a Equal ≡ false → reaches a q ≡ true → reaches b (R v w) ≡ true
          at_end true q e f g h = cc
          at_end false Less e f g h = cc
          at_end false Equal e f g h = cc
          at_end false Greater e f g h = greater_is b (greater_equal v u w f (tied_back o w u e))
      by Greater q e f g h = never a g
        where
          never : (a : Bool) → reaches a Greater ≡ false → reaches b (R v w) ≡ true
          never true g = cc
          never false g = cc

  implied : (x y : Bool) → (y ≡ true → x ≡ true) → y ≡ (x && y)
  implied true y h = refl
  implied false true h = sym (h refl)
  implied false false h = refl

  implied_first : (x y : Bool) → (x ≡ true → y ≡ true) → x ≡ (x && y)
  implied_first true y h = sym (h refl)
  implied_first false y h = refl

  -- the one of two ends that leaves more out
  pub later_both : (a b inner : Bool) (v w u : K) → reaches a (R w u) ≡ inner
      → cond inner (reaches b (R v w)) (reaches a (R v u)) ≡ (reaches a (R v u) && reaches b (R v w))
  later_both a b true v w u e = implied (reaches a (R v u)) (reaches b (R v w)) (λ h. above_on a b v w u h e)
  later_both a b false v w u e = implied_first (reaches a (R v u)) (reaches b (R v w)) (λ h. above_off a b v w u e h)

-- ---- lower ends

later_is : (a b : Bound) (v : Value) (inner : Bool) → is_above a b.value ≡ inner → is_above (cond inner b a) v ≡ (is_above a v && is_above b v)
later_is a b v true e = later_both value_order value_order_total a.among b.among true v b.value a.value e
later_is a b v false e = later_both value_order value_order_total a.among b.among false v b.value a.value e

both_none : (x : Bool) → x ≡ (x && true)
both_none true = refl
both_none false = refl

low_is : (a b : Option Bound) (v : Value) → is_from (met_low a b) v ≡ (is_from a v && is_from b v)
low_is None b v = refl
low_is (Some a) None v = both_none (is_above a v)
low_is (Some a) (Some b) v = later_is a b v (is_above a b.value) refl

-- ---- upper ends, in the order turned round

abbrev pub downwards : Value → Value → Ordering
downwards a b = value_order b a

pub downwards_total : IsTotalOrder downwards
downwards_total = back_total value_order_total

is_below_turned : (among : Bool) (p q : Ordering) → p ≡ ordering_reverse q → cond among (is_le p) (is_lt p) ≡ reaches among q
is_below_turned true p Less e = ap is_le e
is_below_turned true p Equal e = ap is_le e
is_below_turned true p Greater e = ap is_le e
is_below_turned false p Less e = ap is_lt e
is_below_turned false p Equal e = ap is_lt e
is_below_turned false p Greater e = ap is_lt e

pub below_is : (high : Bound) (v : Value) → is_below high v ≡ reaches high.among (downwards v high.value)
below_is high v = is_below_turned high.among (value_order v high.value) (value_order high.value v) (value_order_total.antisymm v high.value)

earlier_is : (a b : Bound) (v : Value) (inner : Bool) → is_below a b.value ≡ inner → is_below (cond inner b a) v ≡ (is_below a v && is_below b v)
earlier_is a b v true e =
    below_is b v ∙ later_both downwards downwards_total a.among b.among true v b.value a.value (sym (below_is a b.value) ∙ e)
    ∙ ap (λ (x : Bool). x && reaches b.among (downwards v b.value)) (sym (below_is a v)) ∙ ap (λ (x : Bool). is_below a v && x) (sym (below_is b v))
earlier_is a b v false e =
    below_is a v ∙ later_both downwards downwards_total a.among b.among false v b.value a.value (sym (below_is a b.value) ∙ e)
    ∙ ap (λ (x : Bool). x && reaches b.among (downwards v b.value)) (sym (below_is a v)) ∙ ap (λ (x : Bool). is_below a v && x) (sym (below_is b v))

high_is : (a b : Option Bound) (v : Value) → is_to (met_high a b) v ≡ (is_to a v && is_to b v)
high_is None b v = refl
high_is (Some a) None v = both_none (is_below a v)
high_is (Some a) (Some b) v = earlier_is a b v (is_below a b.value) refl

-- ---- ranges

four : (a b c d : Bool) → ((a && b) && (c && d)) ≡ ((a && c) && (b && d))
four true true c d = refl
four true false true d = refl
four true false false d = refl
four false b c d = refl

pub ranges_meet : RangesMeet
ranges_meet a b v =
    ap (λ (x : Bool). x && is_to (met_high a.high b.high) v) (low_is a.low b.low v)
    ∙ ap (λ (x : Bool). (is_from a.low v && is_from b.low v) && x) (high_is a.high b.high v)
    ∙ four (is_from a.low v) (is_from b.low v) (is_to a.high v) (is_to b.high v)
