-- Bits in bytes: each is found where it was put.
use Rattle.std.proofs.Common.{◌≡◌, ℕ, zero, suc, ◌+◌, ◌*◌, ◌/◌, ◌%◌, ◌^◌, ◌<◌, Bool, true, false, List, [], ◌∷◌, take, drop, length, get_or, refl, sym, ap, ◌∙◌, arith}
use Rattle.std.specs.Prelude.{slice_index, ◌==◌}
use Rattle.std.proofs.Math.Nat.{div-div-eq-div-mul}
use Rattle.log_model.specs.Images.{is_set, bit, byte_of, bitmap}
use native.Mathlib.Numerals.{unary_clauses}

bit_low : (b : Bool) (n : ℕ) → (bit b + 2 * n) % 2 ≡ bit b
bit_low true n = omega arith
bit_low false n = omega arith

bit_high : (b : Bool) (n : ℕ) → (bit b + 2 * n) / 2 ≡ n
bit_high true n = omega arith
bit_high false n = omega arith

step : (n k : ℕ) → n / 2 ^ suc k ≡ (n / 2) / 2 ^ k
step n k =
    let twice : 2 ^ suc k ≡ 2 * 2 ^ k = simp unary_clauses (omega arith) in
    ap (λ (m : ℕ). n / m) twice ∙ sym (div-div-eq-div-mul n 2 (2 ^ k))

bit_at : (bs : List Bool) (k : ℕ) → byte_of bs / 2 ^ k % 2 ≡ bit (get_or bs k false)
bit_at [] zero = refl
bit_at [] (suc k) = grind arith
bit_at (b ∷ bs) zero = let low = bit_low b (byte_of bs) in omega (arith, low)
bit_at (b ∷ bs) (suc k) = rw (step (bit b + 2 * byte_of bs) k, bit_high b (byte_of bs)) (bit_at bs k)

is_one : (b : Bool) → (bit b == 1) ≡ b
is_one true = refl
is_one false = refl

-- a bit of the first eight
take_bit : (n : ℕ) (bs : List Bool) (k : ℕ) → k < n → get_or (take n bs) k false ≡ get_or bs k false
take_bit zero bs k low = absurd (omega arith)
take_bit (suc n) [] k low = refl
take_bit (suc n) (b ∷ bs) zero low = refl
take_bit (suc n) (b ∷ bs) (suc k) low = take_bit n bs k (omega arith)

drop_bit : (n : ℕ) (bs : List Bool) (k : ℕ) → get_or (drop n bs) k false ≡ get_or bs (n + k) false
drop_bit zero bs k = let same : k ≡ 0 + k = omega arith in ap (λ (m : ℕ). get_or bs m false) same
drop_bit (suc n) [] k = refl
drop_bit (suc n) (b ∷ bs) k = let same : suc (n + k) ≡ suc n + k = omega arith in drop_bit n bs k ∙ ap (λ (m : ℕ). get_or (b ∷ bs) m false) same

-- a bit of a byte
byte_bit : (count : ℕ) (bs : List Bool) (i k : ℕ) → i < count → k < 8
    → slice_index (bitmap count bs) i / 2 ^ k % 2 ≡ bit (get_or bs (8 * i + k) false)
byte_bit zero bs i k low small = absurd (omega arith)
byte_bit (suc n) bs zero k low small =
    let place : k ≡ 8 * 0 + k = omega arith in
    bit_at (take 8 bs) k ∙ ap bit (take_bit 8 bs k small ∙ ap (λ (m : ℕ). get_or bs m false) place)
byte_bit (suc n) bs (suc i) k low small =
    let place : 8 + (8 * i + k) ≡ 8 * suc i + k = omega arith in
    byte_bit n (drop 8 bs) i k (omega arith) small ∙ ap bit (drop_bit 8 bs (8 * i + k) ∙ ap (λ (m : ℕ). get_or bs m false) place)

pub set_bit : (count : ℕ) (bs : List Bool) (column : ℕ) → column < 8 * count → is_set (bitmap count bs) column ≡ get_or bs column false
set_bit count bs column low =
    let whole : 8 * (column / 8) + column % 8 ≡ column = omega arith in
    ap (λ (n : ℕ). n == 1) (byte_bit count bs (column / 8) (column % 8) (omega arith) (omega arith)) ∙ is_one (get_or bs (8 * (column / 8) + column % 8) false)
    ∙ ap (λ (n : ℕ). get_or bs n false) whole

pub length-bitmap : (count : ℕ) (bs : List Bool) → length (bitmap count bs) ≡ count
length-bitmap zero bs = refl
length-bitmap (suc n) bs = ap suc (length-bitmap n (drop 8 bs))
