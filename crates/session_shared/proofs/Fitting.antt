-- Items that do not have too many bytes: the first of them do not, either.
use Rattle.std.proofs.Common.{◌≡◌, ℕ, zero, suc, ◌≤◌, ◌||◌, Bool, true, false, List, [], ◌∷◌, take, refl, ap, ◌∙◌, arith}
use Rattle.std.specs.Prelude.{nat_lt}
use Rattle.std.proofs.lemmas.Bool.{ltb-true, ltb-false}
use Rattle.session_model.specs.log_entries.declared.entries.Item.{Item}
use Rattle.session_model.specs.binlog_sizes.Sizes.{all_changes_size, all_sizes, are_too_large, most_bytes}

fewer_bytes : (n : ℕ) (is : List Item) → all_sizes (take n is) ≤ all_sizes is
fewer_bytes zero is = omega arith
fewer_bytes (suc n) [] = omega arith
fewer_bytes (suc n) (i ∷ is) = omega (arith, fewer_bytes n is)

fewer_changes : (n : ℕ) (is : List Item) → all_changes_size (take n is) ≤ all_changes_size is
fewer_changes zero is = omega arith
fewer_changes (suc n) [] = omega arith
fewer_changes (suc n) (i ∷ is) = omega (arith, fewer_changes n is)

both_false : (b c : Bool) → b || c ≡ false → (b ≡ false) × (c ≡ false)
both_false true c e = cc
both_false false c e = (refl, e)

not_less : (most k n : ℕ) → k ≤ n → nat_lt most n ≡ false → nat_lt most k ≡ false
not_less most k n le is = by (nat_lt most k) refl
  where
    by : (b : Bool) → nat_lt most k ≡ b → nat_lt most k ≡ false
    by false e = e
    by true e = absurd (omega (arith, le, ltb-false most n is, ltb-true most k e))

pub fewer_fit : (n : ℕ) (is : List Item) → are_too_large is ≡ false → are_too_large (take n is) ≡ false
fewer_fit n is none =
    let parts = both_false (nat_lt most_bytes (all_sizes is)) (nat_lt most_bytes (all_changes_size is)) none in
    ap (λ (b : Bool). b || nat_lt most_bytes (all_changes_size (take n is))) (not_less most_bytes (all_sizes (take n is)) (all_sizes is) (fewer_bytes n is) parts.0)
    ∙ not_less most_bytes (all_changes_size (take n is)) (all_changes_size is) (fewer_changes n is) parts.1
