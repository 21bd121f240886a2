-- Values of which one list is a front of the other.
use Rattle.std.proofs.Common.{◌≡◌, ℕ, zero, suc, ◌<◌, ◌≤◌, List, [], ◌∷◌, length, drop, Less, Greater, refl, arith}
use Rattle.val_types.specs.declared.value.Value.{Value}
use Rattle.val_types.specs.Keys.{values_at}
use Rattle.val_types.specs.Order.{key_order}

-- one that has another as its front stands behind it
pub front_behind : (columns : List ℕ) (row key : List Value) (i : ℕ) → i < length columns → i ≡ length key → Greater ≡ key_order (values_at (drop i columns) row) (drop i key)
front_behind [] row key i h e = absurd (omega arith)
front_behind (column ∷ columns) row [] zero h e = refl
front_behind (column ∷ columns) row (v ∷ key) zero h e = absurd (omega arith)
front_behind (column ∷ columns) row [] (suc i) h e = absurd (omega arith)
front_behind (column ∷ columns) row (v ∷ key) (suc i) h e = front_behind columns row key i (omega arith) (omega arith)

-- one that is a front of another stands before it
pub before_longer : (columns : List ℕ) (row key : List Value) (i : ℕ) → length columns ≤ i → i ≤ length columns → length columns < length key
    → Less ≡ key_order (values_at (drop i columns) row) (drop i key)
before_longer [] row [] i h up more = absurd (omega arith)
before_longer [] row (v ∷ key) zero h up more = refl
before_longer [] row (v ∷ key) (suc i) h up more = absurd (omega arith)
before_longer (column ∷ columns) row key zero h up more = absurd (omega arith)
before_longer (column ∷ columns) row [] (suc i) h up more = absurd (omega arith)
before_longer (column ∷ columns) row (v ∷ key) (suc i) h up more = before_longer columns row key i (omega arith) (omega arith) (omega arith)
