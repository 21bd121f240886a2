-- Ends and two values of which one is not below the other.
use Rattle.std.proofs.Common.{◌≡◌, true, Option, Some, None, refl, sym, ◌∙◌}
use Rattle.std.specs.Ordering.{is_ge}
use Rattle.val_types.specs.declared.value.Value.{Value}
use Rattle.val_types.specs.Order.{value_order}
use Rattle.val_types.proofs.Values.{value_order_total}
use Rattle.value_ranges.specs.Ranges.{Bound, is_from, is_to}
use Rattle.value_ranges.proofs.Meeting.{above_on, below_is, downwards, downwards_total}

-- a value that is not before a range is before no higher one
pub from_on : (low : Option Bound) (v w : Value) → is_ge (value_order w v) ≡ true → is_from low v ≡ true → is_from low w ≡ true
from_on None v w up e = refl
from_on (Some low) v w up e = above_on value_order value_order_total low.among true w v low.value up e

-- and one that is not behind it is behind no lower one
pub to_on : (high : Option Bound) (v w : Value) → is_ge (value_order w v) ≡ true → is_to high w ≡ true → is_to high v ≡ true
to_on None v w up e = refl
to_on (Some high) v w up e =
    below_is high v ∙ above_on downwards downwards_total high.among true v w high.value up (sym (below_is high w) ∙ e)
