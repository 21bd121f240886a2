-- The digits of a number, by steps that the checker computes.
use Rattle.std.proofs.Common.{◌≡◌, ℕ, zero, suc, ◌+◌, ◌/◌, ◌%◌, ◌^◌, ◌<◌, ◌≤◌, Bool, true, false, List, [], ◌∷◌, ◌++◌, refl, arith}
use Rattle.std.specs.Prelude.{nat_lt, if◌then◌else◌}
use Rattle.std.specs.Fmt.{decimal}
use Rattle.std.proofs.lemmas.Bool.{ltb-true, ltb-false}
use Rattle.std.proofs.lemmas.Fmt.{decimal_digit, decimal_step}

-- the digits of a number that has at most so many and one more
abbrev pub written : ℕ → ℕ → List ℕ
written zero n = (48 + n) ∷ []
written (suc k) n = if nat_lt n 10 then (48 + n) ∷ [] else written k (n / 10) ++ (48 + n % 10) ∷ []

-- whether it has
abbrev pub is_short : ℕ → ℕ → Bool
is_short zero n = nat_lt n 10
is_short (suc k) n = if nat_lt n 10 then true else is_short k (n / 10)

one_more : (k n : ℕ) (b : Bool) → nat_lt n 10 ≡ b → n < 2 ^ 64 → is_short (suc k) n ≡ true
    → (n / 10 < 2 ^ 64 → is_short k (n / 10) ≡ true → decimal (n / 10) ≡ written k (n / 10))
    → decimal n ≡ written (suc k) n
one_more k n true t fits e less = rw t (decimal_digit n (ltb-true _ _ t))
one_more k n false t fits e less =
    let ten : 10 ≤ n = ltb-false _ _ t in
    let short : is_short k (n / 10) ≡ true = rw t at e in
    let front : decimal (n / 10) ≡ written k (n / 10) = less (omega arith) short in
    rw (t, decimal_step n ten fits, front) refl

pub digits_by_steps : (k n : ℕ) → n < 2 ^ 64 → is_short k n ≡ true → decimal n ≡ written k n
digits_by_steps zero n fits e = decimal_digit n (ltb-true _ _ e)
digits_by_steps (suc k) n fits e = one_more k n (nat_lt n 10) refl fits e (λ f s. digits_by_steps k (n / 10) f s)
