-- How many values a count keeps, and what the next value adds to a sum.
use Rattle.std.proofs.Common.{◌≡◌, ℕ, suc, ◌+◌, ◌<◌, ◌≤◌, List, [], ◌∷◌, length, get_or, drop, drop-cons, add-one, Bool, true, false, not, cond, refl, arith, ◌+ℤ◌}
use Rattle.std.specs.List.{filter}
use Rattle.val_types.specs.declared.value.Value.{Value}
use Rattle.val_types.specs.Fitting.{is_null}
use Rattle.value_rules.specs.Selecting.{known_count, addend, total}

choice : (b : Bool) (x : Value) (xs : List Value) (n : ℕ) → length xs ≤ n → length (cond b (x ∷ xs) xs) ≤ suc n
choice true x xs n h = omega arith
choice false x xs n h = omega arith

-- a filter keeps no more than there is
kept_at_most : (p : Value → Bool) (vs : List Value) → length (filter p vs) ≤ length vs
kept_at_most p [] = omega arith
kept_at_most p (v ∷ vs) = choice (p v) v (filter p vs) (length vs) (kept_at_most p vs)

pub known_at_most : (vs : List Value) → known_count vs ≤ length vs
known_at_most vs = kept_at_most (λ v. not (is_null v)) vs

-- the first of the rest adds its number
pub total_step : (vs : List Value) (i : ℕ) (v : Value) → i < length vs → v ≡ get_or vs i v → total (drop i vs) ≡ addend v +ℤ total (drop (i + 1) vs)
total_step vs i v h e = rw (drop-cons vs i v, ← e, add-one) refl
