-- MIN and MAX of values that rise.
use Rattle.std.proofs.Common.{◌≡◌, List, [], ◌∷◌, Bool, true, false, not, ◌||◌, cond, Ordering, Less, Equal, Greater, refl, ap, ◌∙◌}
use Rattle.std.specs.List.{list_all}
use Rattle.std.specs.Ordering.{is_lt, ordering_reverse}
use Rattle.std.proofs.lemmas.Bool.{and_parts}
use Rattle.val_types.specs.declared.value.Value.{Value}
use Rattle.val_types.specs.declared.value.Value.TheVariants.{Null}
use Rattle.val_types.specs.Fitting.{is_null}
use Rattle.val_types.specs.Order.{value_order}
use Rattle.val_types.proofs.Values.{value_order_total}
use Rattle.value_rules.specs.Selecting.{better, comes_first, extreme}
use Rattle.key_order.specs.Extremes.{values_rise, last_from, LowestIsFirst, HighestIsLast}

-- ---- the lowest

not_less : (o : Ordering) → is_lt o ≡ true → is_lt (ordering_reverse o) ≡ false
not_less Less e = refl
not_less Equal e = cc
not_less Greater e = cc

above : (best v : Value) → is_lt (value_order best v) ≡ true → is_lt (value_order v best) ≡ false
above best v below = ap is_lt (value_order_total.antisymm v best) ∙ not_less (value_order best v) below

chosen : (null known first : Bool) (best v : Value) → known ≡ false → first ≡ false → cond null best (cond (known || first) v best) ≡ best
chosen true known first best v e f = refl
chosen false true first best v e f = cc
chosen false false true best v e f = cc
chosen false false false best v e f = refl

first_stays : (best : Value) (vs : List Value) → is_null best ≡ false → list_all (λ (later : Value). is_lt (value_order best later)) vs ≡ true → extreme (comes_first false) best vs ≡ best
first_stays best [] there below = refl
first_stays best (v ∷ vs) there below =
    let both = and_parts (is_lt (value_order best v)) (list_all (λ (later : Value). is_lt (value_order best later)) vs) below in
    ap (λ (b : Value). extreme (comes_first false) b vs) (chosen (is_null v) (is_null best) (is_lt (value_order v best)) best v there (above best v both.0))
    ∙ first_stays best vs there both.1

-- the first value is the best so far
begun : (before : Value → Value → Bool) (v : Value) → is_null v ≡ false → better before Null v ≡ v
begun before v there = ap (λ (null : Bool). cond null Null v) there

pub lowest_is_first : LowestIsFirst
lowest_is_first v vs there rising =
    let both = and_parts (list_all (λ (later : Value). is_lt (value_order v later)) vs) (values_rise vs) rising in
    ap (λ (b : Value). extreme (comes_first false) b vs) (begun (comes_first false) v there) ∙ first_stays v vs there both.0

-- ---- the highest

replaced : (null known first : Bool) (best v : Value) → not null ≡ true → first ≡ true → cond null best (cond (known || first) v best) ≡ v
replaced true known first best v e f = cc
replaced false true first best v e f = refl
replaced false false true best v e f = refl
replaced false false false best v e f = cc

last_wins : (best : Value) (vs : List Value) → list_all (λ (w : Value). not (is_null w)) vs ≡ true → values_rise (best ∷ vs) ≡ true → extreme (comes_first true) best vs ≡ last_from best vs
last_wins best [] there rising = refl
last_wins best (v ∷ vs) there rising =
    let values = and_parts (not (is_null v)) (list_all (λ (w : Value). not (is_null w)) vs) there in
    let both = and_parts (list_all (λ (later : Value). is_lt (value_order best later)) (v ∷ vs)) (values_rise (v ∷ vs)) rising in
    let below = and_parts (is_lt (value_order best v)) (list_all (λ (later : Value). is_lt (value_order best later)) vs) both.0 in
    ap (λ (b : Value). extreme (comes_first true) b vs) (replaced (is_null v) (is_null best) (is_lt (value_order best v)) best v values.0 below.0)
    ∙ last_wins v vs values.1 both.1

not_true : (b : Bool) → not b ≡ true → b ≡ false
not_true true e = cc
not_true false e = refl

pub highest_is_last : HighestIsLast
highest_is_last v vs there rising =
    let values = and_parts (not (is_null v)) (list_all (λ (w : Value). not (is_null w)) vs) there in
    ap (λ (b : Value). extreme (comes_first true) b vs) (begun (comes_first true) v (not_true (is_null v) values.0)) ∙ last_wins v vs values.1 rising
