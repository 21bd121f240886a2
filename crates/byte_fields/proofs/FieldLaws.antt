-- Numbers in bytes: what is read from a place on, and that a number that was written is read again.
use Rattle.std.proofs.Common.{◌≡◌, ℕ, ◌+◌, ◌-◌, ◌≤◌, ◌^◌, ◌<◌, Bool, true, false, leb, ltb, List, ◌∷◌, ◌++◌, take, drop, length, ap, refl, ◌∙◌, arith, Ok}
use Rattle.std.proofs.lemmas.Slice.{between_to_end}
use Rattle.std.proofs.lemmas.Bool.{le-ltb, lt-leb, ltb-true}
use Rattle.std.proofs.lemmas.List.{take-append-le, length-append}
use Rattle.byteorder.specs.Endian.{little_number}
use Rattle.byteorder.specs.Numbers.{little_number-reads_back, length-bytes_low_first}
use Rattle.byte_fields.specs.Field.{number_at, number_bytes, BeginsWith}
use Rattle.byte_fields.specs.LengthEncoded.{lenenc_behind, lenenc_from, lenenc_at, lenenc_bytes}

-- what is read of the bytes from a place on
pub read_rest : (place count n : ℕ) (bytes : List ℕ) → n ≡ little_number count (take (length bytes - place) (drop place bytes))
    → n ≡ number_at place count bytes
unfolding number_at
read_rest place count n bytes e = e ∙ ap (little_number count) (between_to_end bytes place (length bytes) (omega arith))

-- bytes that grow keep what is in front
pub begins_more : (front bytes more : List ℕ) → length front ≤ length bytes → BeginsWith bytes front → take (length front) (bytes ++ more) ≡ front
begins_more front bytes more within before = take-append-le (length front) bytes more within ∙ before

pub field_again : (count n : ℕ) (rest : List ℕ) → n < 256 ^ count → number_at 0 count (number_bytes count n ++ rest) ≡ n
unfolding number_at number_bytes
field_again count n rest fits = little_number-reads_back count n rest fits

pub field_width : (count n : ℕ) → length (number_bytes count n) ≡ count
unfolding number_bytes
field_width count n = length-bytes_low_first 0 count n

-- ---- length-encoded integers

-- a number behind its first byte
behind_again : (first count n : ℕ) (rest : List ℕ) → n < 256 ^ count
    → lenenc_behind count (first ∷ (number_bytes count n ++ rest)) 0 ≡ Ok (n, 1 + count)
unfolding number_at
behind_again first count n rest fits =
    let len = field_width count n in
    let enough : ltb (length (first ∷ (number_bytes count n ++ rest))) (1 + count) ≡ false = le-ltb _ _ (omega (arith, len, length-append (number_bytes count n) rest)) in
    rw (enough, field_again count n rest fits) refl

present : (b : ℕ) (bs : List ℕ) → lenenc_at (b ∷ bs) 0 ≡ lenenc_from b (b ∷ bs) 0
unfolding lenenc_at
present b bs = let some : leb (length (b ∷ bs)) 0 ≡ false = lt-leb _ _ (omega arith) in rw some refl

lenenc_by : (n : ℕ) (rest : List ℕ) → n < 2 ^ 64 → (a b d : Bool) → ltb n 251 ≡ a → ltb n (2 ^ 16) ≡ b → ltb n (2 ^ 24) ≡ d
    → lenenc_at (lenenc_bytes n ++ rest) 0 ≡ Ok (n, length (lenenc_bytes n))
unfolding lenenc_bytes number_bytes
lenenc_by n rest fits true b d t u v = rw t (present n rest ∙ rw t refl)
lenenc_by n rest fits false true d t u v = rw (t, u) (present 252 _ ∙ behind_again 252 2 n rest (ltb-true _ _ u))
lenenc_by n rest fits false false true t u v = rw (t, u, v) (present 253 _ ∙ behind_again 253 3 n rest (ltb-true _ _ v))
lenenc_by n rest fits false false false t u v = rw (t, u, v) (present 254 _ ∙ behind_again 254 8 n rest fits)

-- a length-encoded integer that is written is read again
pub lenenc_again : (n : ℕ) (rest : List ℕ) → n < 2 ^ 64 → lenenc_at (lenenc_bytes n ++ rest) 0 ≡ Ok (n, length (lenenc_bytes n))
lenenc_again n rest fits = lenenc_by n rest fits _ _ _ refl refl refl
