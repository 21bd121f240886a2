-- Facts and the operators that say them.
use Rattle.std.proofs.Common.{◌≡◌, ℕ, List, [], ◌∷◌, ◌++◌, Bool, true, false, ◌&&◌, cond, Ordering, refl, ap, ◌∙◌}
use Rattle.std.specs.Prelude.{◌==◌}
use Rattle.std.specs.Ordering.{ordering_reverse}
use Rattle.std.specs.declared.cmp.Ordering.TheVariants as orders
use Rattle.std.proofs.lemmas.Bool.{and_parts}
use Rattle.val_types.specs.declared.value.Value.{Value}
use Rattle.val_types.specs.Order.{value_order}
use Rattle.val_types.proofs.Values.{value_order_total}
use Rattle.where_laws.specs.Facts.{Way, equal, unequal, below, at_most, above, at_least, stands_so, turned, Fact, is_so, agrees}
use Rattle.where_laws.specs.Keys.{facts_at}

-- ---- lists of facts

pub agrees_both : (xs ys : List Fact) (row : List Value) → agrees (xs ++ ys) row ≡ agrees xs row && agrees ys row
agrees_both [] ys row = refl
agrees_both (x ∷ xs) ys row = ap (λ (b : Bool). is_so x row && b) (agrees_both xs ys row) ∙ joined (is_so x row) (agrees xs row) (agrees ys row)
  where
    joined : (a b c : Bool) → a && (b && c) ≡ (a && b) && c
    joined true b c = refl
    joined false b c = refl

-- facts that are so are so of each column
pub agrees_at : (place : ℕ) (facts : List Fact) (row : List Value) → agrees facts row ≡ true → agrees (facts_at place facts) row ≡ true
agrees_at place [] row agree = refl
agrees_at place (fact ∷ facts) row agree =
    let both = and_parts (is_so fact row) (agrees facts row) agree in step (fact.place == place) both.0 (agrees_at place facts row both.1)
  where
    step : (here : Bool) → is_so fact row ≡ true → agrees (facts_at place facts) row ≡ true → agrees (cond here (fact ∷ facts_at place facts) (facts_at place facts)) row ≡ true
    step true so rest = ap (λ (b : Bool). b && agrees (facts_at place facts) row) so ∙ rest
    step false so rest = rest

-- ---- a comparison turned round

pub turned_way : (way : Way) (a b : Value) → stands_so way (value_order a b) ≡ stands_so (turned way) (value_order b a)
turned_way way a b = ap (stands_so way) (value_order_total.antisymm a b) ∙ reversed way (value_order b a)
  where
    reversed : (w : Way) (o : Ordering) → stands_so w (ordering_reverse o) ≡ stands_so (turned w) o
    reversed equal orders.Less = refl
    reversed equal orders.Equal = refl
    reversed equal orders.Greater = refl
    reversed unequal orders.Less = refl
    reversed unequal orders.Equal = refl
    reversed unequal orders.Greater = refl
    reversed below orders.Less = refl
    reversed below orders.Equal = refl
    reversed below orders.Greater = refl
    reversed at_most orders.Less = refl
    reversed at_most orders.Equal = refl
    reversed at_most orders.Greater = refl
    reversed above orders.Less = refl
    reversed above orders.Equal = refl
    reversed above orders.Greater = refl
    reversed at_least orders.Less = refl
    reversed at_least orders.Equal = refl
    reversed at_least orders.Greater = refl
