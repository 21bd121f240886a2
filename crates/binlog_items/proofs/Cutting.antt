-- Bytes from a position on, so many at the most.
use Rattle.std.proofs.Common.{◌≡◌, ℕ, zero, suc, ◌-◌, ◌≤◌, ◌<◌, inl, inr, List, [], ◌∷◌, length, take, drop, min, refl, sym, ap, ◌∙◌, arith}
use Rattle.std.proofs.lemmas.List.{length-drop, take_all}
use Rattle.std.proofs.lemmas.Bool.Decides.{leb_tells}

drop_all : (bytes : List ℕ) (n : ℕ) → length bytes ≤ n → drop n bytes ≡ []
drop_all [] zero few = refl
drop_all [] (suc n) few = refl
drop_all (b ∷ bytes) zero few = absurd (omega (arith, few))
drop_all (b ∷ bytes) (suc n) few = drop_all bytes n (omega (arith, few))

drop_least : (bytes : List ℕ) (pos : ℕ) → drop (min (length bytes) pos) bytes ≡ drop pos bytes
drop_least bytes pos = elim (leb_tells (length bytes) pos) [
  | inl e ↦
      (let few : length bytes ≤ pos = e.1 in
      let all : min (length bytes) pos ≡ length bytes = omega (arith, few) in
      ap (λ (n : ℕ). drop n bytes) all ∙ drop_all bytes (length bytes) (omega arith) ∙ sym (drop_all bytes pos few))
  | inr e ↦
      (let many : pos < length bytes = e.1 in
      let some : min (length bytes) pos ≡ pos = omega (arith, many) in
      ap (λ (n : ℕ). drop n bytes) some)
]

take_least : (bytes : List ℕ) (count : ℕ) → take (min (length bytes) count) bytes ≡ take count bytes
take_least bytes count = elim (leb_tells (length bytes) count) [
  | inl e ↦
      (let few : length bytes ≤ count = e.1 in
      let all : min (length bytes) count ≡ length bytes = omega (arith, few) in
      ap (λ (n : ℕ). take n bytes) all ∙ take_all (length bytes) bytes (omega arith) ∙ sym (take_all count bytes few))
  | inr e ↦
      (let many : count < length bytes = e.1 in
      let some : min (length bytes) count ≡ count = omega (arith, many) in
      ap (λ (n : ℕ). take n bytes) some)
]

pub served : (bytes : List ℕ) (pos most start count : ℕ) → start ≡ min (length bytes) pos → count ≡ min (length bytes - start) most → take count (drop start bytes) ≡ take most (drop pos bytes)
served bytes pos most start count begin end =
    let rest : drop start bytes ≡ drop pos bytes = ap (λ (n : ℕ). drop n bytes) begin ∙ drop_least bytes pos in
    let left : length bytes - start ≡ length (drop pos bytes) = sym (length-drop start bytes) ∙ ap length rest in
    ap (λ (bs : List ℕ). take count bs) rest
    ∙ ap (λ (n : ℕ). take n (drop pos bytes)) (end ∙ ap (λ (k : ℕ). min k most) left)
    ∙ take_least (drop pos bytes) most
