-- The least number at or above a number with a rest.
use Rattle.std.proofs.Common.{◌≡◌, ℕ, suc, ◌+◌, ◌-◌, ◌*◌, ◌/◌, ◌%◌, ◌<◌, ◌≤◌, Bool, true, false, cond, refl, sym, ap, subst, ◌∙◌, arith, inl, inr, ◌⊎◌}
use Rattle.std.specs.Prelude.{nat_le}
use Rattle.std.proofs.Math.Nat.{mul-le-mul_right, lt_of_mul-lt-mul_right, suc-mul}
use Rattle.std.proofs.lemmas.Nat.{mod-mul-add, div-add-mod', mod_below}
use Rattle.std.proofs.lemmas.Bool.{leb-true, leb-false, cases_lt}
use Rattle.auto_inc.specs.Generating.{LeastCongruent}

-- with a quotient that is lower by one or more, a number is lower by m or more
lower : (m p q : ℕ) → p < q → p * m + m ≤ q * m
lower m p q h = let step : suc p * m ≤ q * m = mul-le-mul_right m h in omega (arith, suc-mul p m)

block_first : (m w n p q : ℕ) → w < m → q * m ≤ n → n ≤ p * m + w → (p < q) ⊎ (q ≤ p) → q * m + w ≤ p * m + w
block_first m w n p q low here h (inl less) = let step : p * m + m ≤ q * m = lower m p q less in absurd (omega arith)
block_first m w n p q low here h (inr more) = let step : q * m ≤ p * m = mul-le-mul_right m more in omega arith

-- a number by its quotient q and its rest, from which the next with the rest w is looked for
least_step : (m w n q : ℕ) (first : Bool) → nat_le n (q * m + w) ≡ first → w < m → q * m ≤ n → n < q * m + m
    → (n ≤ cond first (q * m + w) (q * m + m + w))
    × (cond first (q * m + w) (q * m + m + w) % m ≡ w)
    × ((p : ℕ) → n ≤ p * m + w → cond first (q * m + w) (q * m + m + w) ≤ p * m + w)
least_step m w n q true e low here above =
    (leb-true n (q * m + w) e, mod-mul-add q m w low, λ p h. block_first m w n p q low here h (cases_lt p q))
least_step m w n q false e low here above =
    let past : q * m + w < n = leb-false n (q * m + w) e in (
      omega arith,
      ap (λ (k : ℕ). (k + w) % m) (sym (suc-mul q m)) ∙ mod-mul-add (suc q) m w low,
      λ p h. (let less : q * m < p * m = omega arith in
          let step : q * m + m ≤ p * m = lower m q p (lt_of_mul-lt-mul_right m less) in omega arith),
    )

pub least_is_least : LeastCongruent
least_is_least m o n h =
    let block : n - n % m ≡ n / m * m = omega (arith, div-add-mod' n m) in
    let rest : n % m < m = mod_below n m h in
    let here : n / m * m ≤ n = omega (arith, div-add-mod' n m) in
    let above : n < n / m * m + m = omega (arith, div-add-mod' n m) in
    let found = least_step m (o % m) n (n / m) (nat_le n (n / m * m + o % m)) refl (mod_below o m h) here above in
    subst (λ (b : ℕ). (n ≤ cond (nat_le n (b + o % m)) (b + o % m) (b + m + o % m))
    × (cond (nat_le n (b + o % m)) (b + o % m) (b + m + o % m) % m ≡ o % m)
    × ((other : ℕ) → n ≤ other → other % m ≡ o % m → cond (nat_le n (b + o % m)) (b + o % m) (b + m + o % m) ≤ other)) (sym block) (
      found.0,
      found.1,
      λ other k e.
          (let whole : other / m * m + o % m ≡ other = ap (λ (r : ℕ). other / m * m + r) (sym e) ∙ div-add-mod' other m in
          subst (λ (x : ℕ). cond (nat_le n (n / m * m + o % m)) (n / m * m + o % m) (n / m * m + m + o % m) ≤ x) whole
          (found.2 (other / m) (subst (λ (x : ℕ). n ≤ x) (sym whole) k))),
    )
