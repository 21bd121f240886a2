-- MIN and MAX of values that rise.
use Rattle.std.specs.Prelude.{◌≡◌, Bool, true, false, not, ◌&&◌, List, [], ◌∷◌}
use Rattle.std.specs.List.{list_all}
use Rattle.std.specs.Ordering.{is_lt}
use Rattle.val_types.specs.declared.value.Value.{Value}
use Rattle.val_types.specs.declared.value.Value.TheVariants.{Null}
use Rattle.val_types.specs.Fitting.{is_null}
use Rattle.val_types.specs.Order.{value_order}
use Rattle.value_rules.specs.Selecting.{comes_first, extreme}

-- whether each value is below all behind it
abbrev pub values_rise : List Value → Bool
values_rise [] = true
values_rise (v ∷ vs) = list_all (λ (later : Value). is_lt (value_order v later)) vs && values_rise vs

-- the last of some values, a first one where there is none
abbrev pub last_from : Value → List Value → Value
last_from v [] = v
last_from v (next ∷ vs) = last_from next vs

-- of values that rise, and of which none is NULL, the lowest is the first and the highest the last
abbrev pub LowestIsFirst : Type 0
LowestIsFirst = (v : Value) (vs : List Value) → is_null v ≡ false → values_rise (v ∷ vs) ≡ true → extreme (comes_first false) Null (v ∷ vs) ≡ v

abbrev pub HighestIsLast : Type 0
HighestIsLast =
    (v : Value) (vs : List Value) → list_all (λ (w : Value). not (is_null w)) (v ∷ vs) ≡ true → values_rise (v ∷ vs) ≡ true
    → extreme (comes_first true) Null (v ∷ vs) ≡ last_from v vs
