-- Comparisons among blocks and in one of them, by the binary digits of the count of all numbers.
use Rattle.std.proofs.Common.{◌≡◌, ℕ, zero, suc, ◌+◌, ◌-◌, ◌*◌, ◌^◌, ◌<◌, ◌≤◌, List, [], ◌∷◌, ◌++◌, length, inl, inr, ◌⊎◌, ap, ◌∙◌, arith, pow-add, pow_mono, length-append}
use Rattle.std.proofs.lemmas.Bool.{cases_lt}
use Rattle.std.proofs.Math.Nat.{mul-le-mul_left, mul_comm, pow-suc}
use Rattle.block_list.specs.Layouts.{flat, AreShaped, AreWithinDigits}
use Rattle.block_list.specs.Spots.{block_at}

-- ---- few blocks have many numbers

abbrev pub pairs : List (List ℕ) → ℕ
pairs [] = 0
pairs (b ∷ []) = 0
pairs (b ∷ (c ∷ bs)) = suc (pairs bs)

pub few : (bs : List (List ℕ)) → length bs ≤ 2 * pairs bs + 1
few [] = omega arith
few (b ∷ []) = omega arith
few (b ∷ (c ∷ bs)) = let rest : length bs ≤ 2 * pairs bs + 1 = few bs in omega arith

pub many : (bs : List (List ℕ)) → AreShaped bs → 256 * pairs bs ≤ length (flat bs)
many [] s = omega arith
many (b ∷ []) s = omega arith
many (b ∷ (c ∷ [])) s =
    let e : length (b ++ (c ++ [])) ≡ length b + (length c + 0) = length-append b (c ++ []) ∙ ap (λ n. length b + n) (length-append c []) in
    let more : 256 ≤ length b + length c = s.2 in omega arith
many (b ∷ (c ∷ (d ∷ bs))) s =
    let e : length (b ++ (c ++ flat (d ∷ bs))) ≡ length b + (length c + length (flat (d ∷ bs))) = length-append b (c ++ flat (d ∷ bs)) ∙ ap (λ n. length b + n) (length-append c (flat (d ∷ bs))) in
    let more : 256 ≤ length b + length c = s.2 in
    let rest : 256 * pairs (d ∷ bs) ≤ length (flat (d ∷ bs)) = many (d ∷ bs) (s.3).3 in
    omega arith

-- ---- so looking among blocks and in one costs at most one comparison more than looking among all

small_power : (k s : ℕ) → 2 ^ k ≤ 2 * s + 1 → s ≤ 255 → k ≤ 8
small_power k s h le = step (cases_lt 8 k)
  where
    step : (8 < k) ⊎ (k ≤ 8) → k ≤ 8
    step (inl big) = let nine : 9 ≤ k = omega arith in let more : 2 ^ 9 ≤ 2 ^ k = pow_mono nine in omega arith
    step (inr small) = small

two_levels : (bs : List (List ℕ)) (size blocks within : ℕ) → AreShaped bs → size ≤ 255 → size ≤ length (flat bs)
    → 2 ^ blocks ≤ 2 * (length bs - 1) + 1 → 2 ^ within ≤ 2 * size + 1 → 2 ^ (blocks + within) ≤ 2 * (2 * length (flat bs) + 1)
two_levels bs size blocks within shaped le less top low =
    let n = length (flat bs) in
    let h : 256 * pairs bs ≤ n = many bs shaped in
    let b : length bs ≤ 2 * pairs bs + 1 = few bs in
    step n (cases_lt 0 (pairs bs)) h b less
  where
    even : (k p : ℕ) → 2 ^ k ≤ 4 * p + 1 → 1 ≤ p → 2 ^ k ≤ 4 * p
    even zero p h some = omega arith
    even (suc k) p h some = let e : 2 ^ suc k ≡ 2 ^ k * 2 = pow-suc 2 k in omega arith

    -- one block, or at least two
    one_block : (n : ℕ) → size ≤ n → 2 ^ blocks ≤ 1 → 2 ^ (blocks + within) ≤ 2 * (2 * n + 1)
    one_block n less first =
        let e : 2 ^ (blocks + within) ≡ 2 ^ blocks * 2 ^ within = pow-add 2 blocks within in
        let c : 2 ^ blocks * 2 ^ within ≡ 2 ^ within * 2 ^ blocks = mul_comm (2 ^ blocks) (2 ^ within) in
        let m : 2 ^ within * 2 ^ blocks ≤ 2 ^ within * 1 = mul-le-mul_left (2 ^ within) first in
        omega (arith, low)

    more_blocks : (n p : ℕ) → 256 * p ≤ n → 1 ≤ p → 2 ^ blocks ≤ 4 * p → 2 ^ (blocks + within) ≤ 2 * (2 * n + 1)
    more_blocks n p h some first =
        let e : 2 ^ (blocks + within) ≡ 2 ^ blocks * 2 ^ within = pow-add 2 blocks within in
        let c : 2 ^ within ≤ 2 ^ 8 = pow_mono (small_power within size low le) in
        let m : 2 ^ blocks * 2 ^ within ≤ 2 ^ blocks * 2 ^ 8 = mul-le-mul_left (2 ^ blocks) c in
        omega arith

    step : (n : ℕ) → (0 < pairs bs) ⊎ (pairs bs ≤ 0) → 256 * pairs bs ≤ n → length bs ≤ 2 * pairs bs + 1 → size ≤ n → 2 ^ (blocks + within) ≤ 2 * (2 * n + 1)
    step n (inl two) h b less = more_blocks n (pairs bs) h (omega (arith, two)) (even blocks (pairs bs) (omega (arith, top, b)) (omega (arith, two)))
    step n (inr one) h b less = one_block n less (omega (arith, top, b, one))

by_digits : (n k : ℕ) → 2 ^ k ≤ 2 * (2 * n + 1) → AreWithinDigits n k
by_digits n k h digits within = step (cases_lt (digits + 1) k)
  where
    step : (digits + 1 < k) ⊎ (k ≤ digits + 1) → k ≤ digits + 1
    step (inr le) = le
    step (inl big) =
        let more : 2 ^ (digits + 2) ≤ 2 ^ k = pow_mono (omega (arith, big)) in
        let e : 2 ^ (digits + 2) ≡ 2 ^ digits * 4 = pow-add 2 digits 2 in
        absurd (omega (arith, more, e, h, within))

pub within_digits : (bs : List (List ℕ)) (size blocks within k : ℕ) → AreShaped bs → size ≤ 255 → size ≤ length (flat bs)
    → 2 ^ blocks ≤ 2 * (length bs - 1) + 1 → 2 ^ within ≤ 2 * size + 1 → k ≡ blocks + within → AreWithinDigits (length (flat bs)) k
within_digits bs size blocks within k shaped le less top low is =
    let both : 2 ^ (blocks + within) ≤ 2 * (2 * length (flat bs) + 1) = two_levels bs size blocks within shaped le less top low in
    by_digits (length (flat bs)) k (omega (arith, ap (λ n. 2 ^ n) is, both))

pub size_within : (bs : List (List ℕ)) (i : ℕ) → length (block_at bs i) ≤ length (flat bs)
size_within [] i = omega arith
size_within (b ∷ bs) zero = omega (arith, length-append b (flat bs))
size_within (b ∷ bs) (suc i) = omega (arith, length-append b (flat bs), size_within bs i)
