-- Numbers put one after the other.
use Rattle.std.proofs.Common.{◌≡◌, ℕ, zero, suc, ◌+◌, List, [], ◌∷◌, ◌++◌, length, take, Some, None, refl, sym, ap, ◌∙◌, arith}
use Rattle.std.specs.Prelude.{insert, slice_get}

at_end : (xs : List ℕ) (n : ℕ) → insert xs (length xs) n ≡ xs ++ n ∷ []
at_end [] n = refl
at_end (x ∷ xs) n = ap (λ (rest : List ℕ). x ∷ rest) (at_end xs n)

take_more : (xs : List ℕ) (i n : ℕ) → slice_get xs i ≡ Some n → take (suc i) xs ≡ take i xs ++ n ∷ []
take_more [] i n e = cc
take_more (x ∷ xs) zero n e = let same : x ≡ n = cc in ap (λ (m : ℕ). m ∷ []) same
take_more (x ∷ xs) (suc i) n e = ap (λ (rest : List ℕ). x ∷ rest) (take_more xs i n e)

-- the next number put behind those so far
pub put_next : (numbers copy new : List ℕ) (i next end n : ℕ) → copy ≡ take i numbers → slice_get numbers i ≡ Some n → next ≡ i + 1 → end ≡ length copy → new ≡ insert copy end n → new ≡ take next numbers
put_next numbers copy new i next end n so_far there step behind put =
    let one : next ≡ suc i = omega (arith, step) in
    put ∙ ap (λ (k : ℕ). insert copy k n) behind ∙ at_end copy n ∙ ap (λ (xs : List ℕ). xs ++ n ∷ []) so_far ∙ sym (take_more numbers i n there) ∙ ap (λ (k : ℕ). take k numbers) (sym one)

-- where none is left, all were put
pub all_put : (numbers : List ℕ) (i : ℕ) → slice_get numbers i ≡ None → take i numbers ≡ numbers
all_put [] zero e = refl
all_put [] (suc i) e = refl
all_put (x ∷ xs) zero e = cc
all_put (x ∷ xs) (suc i) e = ap (λ (rest : List ℕ). x ∷ rest) (all_put xs i e)
