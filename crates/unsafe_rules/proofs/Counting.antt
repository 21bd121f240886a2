-- How many places below an end are among none of some places.
use Rattle.std.proofs.Common.{◌≡◌, ◌+◌, ◌<◌, ◌≤◌, ℕ, zero, suc, Bool, true, false, ◌||◌, nat_eq, List, [], ◌∷◌, cond, refl, arith}
use Rattle.std.proofs.lemmas.Bool.Decides.{nat_tests}
use Rattle.unsafe_rules.specs.Reaching.{is_at, others}

pub others_none : (n : ℕ) → others [] n ≡ n
others_none zero = refl
others_none (suc n) = omega (arith, others_none n)

fewer_by : (s t : Bool) (m k : ℕ) → m ≤ k → cond (s || t) 0 1 + m ≤ cond t 0 1 + k
fewer_by true true m k e = omega arith
fewer_by true false m k e = omega arith
fewer_by false true m k e = omega arith
fewer_by false false m k e = omega arith

-- with one more place there are no more others
others_least : (at : ℕ) (places : List ℕ) (n : ℕ) → others (at ∷ places) n ≤ others places n
others_least at places zero = omega arith
others_least at places (suc n) = fewer_by (nat_eq n at) (is_at n places) _ _ (others_least at places n)

here : (t : Bool) (at : ℕ) (places : List ℕ) (n : ℕ) → nat_eq n at ≡ t → is_at at places ≡ false → at < suc n → (at < n → others (at ∷ places) n + 1 ≤ others places n)
    → cond (t || is_at n places) 0 1 + others (at ∷ places) n + 1 ≤ cond (is_at n places) 0 1 + others places n
here true at places n same new within before =
    let e : n ≡ at = grind (arith, nat_tests) in
    let f : is_at n places ≡ false = rw e new in
    rw f (omega (arith, others_least at places n))
here false at places n same new within before =
    let apart : at < n = grind (arith, nat_tests) in
    omega (arith, before apart)

-- with one more place that is below the end and new there is at least one less
pub one_less : (at : ℕ) (places : List ℕ) (n : ℕ) → is_at at places ≡ false → at < n → others (at ∷ places) n + 1 ≤ others places n
one_less at places zero new within = absurd (omega arith)
one_less at places (suc n) new within = here (nat_eq n at) at places n refl new within (one_less at places n new)
