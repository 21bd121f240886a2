-- The orders of ORDER BY, MIN and MAX are total ones.
use Rattle.std.proofs.Common.{Bool, true, false, List, [], ◌∷◌, refl, drop}
use Rattle.std.specs.Cmp.{IsTotalOrder, IsStrictWeakOrder}
use Rattle.std.proofs.lemmas.Cmp.{back_total, on_total, then_total}
use Rattle.std.proofs.lemmas.List.Sorted.{ranks_by}
use Rattle.val_types.specs.declared.value.Value.{Value}
use Rattle.value_rules.specs.Selecting.{directed, first_value, by_items, key_before, comes_first}
use Rattle.val_types.proofs.Values.{value_order_total}

directed_total : (down : Bool) → IsTotalOrder (directed down)
directed_total false = value_order_total
directed_total true = back_total value_order_total

by_items_total : (downs : List Bool) → IsTotalOrder (by_items downs)
by_items_total [] = record { antisymm = λ x y. refl; trans = λ x y z p q. cc; congr = λ x y z p. refl }
by_items_total (down ∷ downs) = then_total (on_total first_value (directed_total down)) (on_total (drop 1) (by_items_total downs))

pub key_ranks : {X : Type 0} (key : X → List Value) (downs : List Bool) → IsStrictWeakOrder (key_before key downs)
key_ranks key downs = ranks_by (by_items_total downs) key

pub comes_first_ranks : (highest : Bool) → IsStrictWeakOrder (comes_first highest)
comes_first_ranks false = ranks_by value_order_total (λ (v : Value). v)
comes_first_ranks true = ranks_by (back_total value_order_total) (λ (v : Value). v)
