-- Each part of a body that is written is read again.
use Rattle.std.proofs.Common.{◌≡◌, ℕ, zero, suc, ◌+◌, ◌-◌, ◌%◌, ◌^◌, ◌<◌, true, false, eqb, ltb, List, [], ◌∷◌, ◌++◌, length, Ok, refl, sym, ap, ◌∙◌, append-nil, arith, length-append}
use Rattle.std.proofs.lemmas.Bool.{le-ltb, eq-eqb}
use Rattle.std.proofs.lemmas.List.{take_at, drop_at}
use Rattle.std.proofs.Math.Nat.{mod-eq_of_lt}
use Rattle.byte_fields.specs.Field.{number_at, number_bytes}
use Rattle.byte_fields.specs.LengthEncoded.{lenenc_bytes}
use Rattle.byte_fields.proofs.FieldLaws.{field_again, field_width, lenenc_again}
use Rattle.event_codec.specs.Bitmap.{bitmap_size, mask, all_present, present_bits, present}
use Rattle.event_codec.specs.Parts.{number, part, text, lenenc}
use Rattle.event_codec.specs.Writing.{text_bytes}
use Rattle.event_codec.proofs.Stepping.{bits_length}

-- a number in its field
pub number_again : (count n : ℕ) (rest : List ℕ) → n < 256 ^ count → number count (number_bytes count n ++ rest) ≡ Ok (n, rest)
number_again count n rest fits =
    let width = field_width count n in
    let enough : ltb (length (number_bytes count n ++ rest)) count ≡ false = le-ltb _ _ (omega (arith, width, length-append (number_bytes count n) rest)) in
    rw (enough, field_again count n rest fits, drop_at (number_bytes count n) rest count width) refl

-- a number with nothing behind it
pub number_last : (count n : ℕ) → n < 256 ^ count → number count (number_bytes count n) ≡ Ok (n, [])
number_last count n fits = ap (number count) (sym (append-nil (number_bytes count n))) ∙ number_again count n [] fits

-- the number of a byte
pub byte_is : (n : ℕ) (rest : List ℕ) → number_at 0 1 (n ∷ rest) ≡ n
unfolding number_at
byte_is n rest = omega arith

-- a byte
pub byte_again : (n : ℕ) (rest : List ℕ) → number 1 (n ∷ rest) ≡ Ok (n, rest)
unfolding number_at
byte_again n rest =
    let enough : ltb (length (n ∷ rest)) 1 ≡ false = le-ltb _ _ (omega arith) in
    let same : n + 0 ≡ n = omega arith in
    rw (enough, same) refl

-- so many bytes
pub part_again : (front rest : List ℕ) (n : ℕ) → length front ≡ n → part n (front ++ rest) ≡ Ok (front, rest)
part_again front rest n len =
    let enough : ltb (length (front ++ rest)) n ≡ false = le-ltb _ _ (omega (arith, length-append front rest)) in
    rw (enough, take_at front rest n len, drop_at front rest n len) refl

-- a text behind its length
pub text_again : (t rest : List ℕ) → text (text_bytes t ++ rest) ≡ Ok (t, rest)
unfolding text
text_again t rest = rw (byte_again (length t) (t ++ rest)) (part_again t rest (length t) refl)

-- a length-encoded integer
pub lenenc_read : (n : ℕ) (rest : List ℕ) → n < 2 ^ 64 → lenenc (lenenc_bytes n ++ rest) ≡ Ok (n, rest)
lenenc_read n rest fits = rw (lenenc_again n rest fits, drop_at (lenenc_bytes n) rest (length (lenenc_bytes n)) refl) refl

-- each column's bit that is written is found
all_again : (count columns : ℕ) → all_present columns (present_bits count columns) ≡ true
all_again zero columns = refl
all_again (suc count) columns =
    let same : mask columns % (mask columns + 1) ≡ mask columns = mod-eq_of_lt (omega arith) in
    let found : eqb (mask columns % (mask columns + 1)) (mask columns) ≡ true = eq-eqb _ _ same in
    rw (found, all_again count (columns - 8)) refl

-- a bitmap with each column's bit
pub present_again : (columns : ℕ) (rest : List ℕ) → present columns (present_bits (bitmap_size columns) columns ++ rest) ≡ Ok (true, rest)
present_again columns rest =
    rw (part_again (present_bits (bitmap_size columns) columns) rest (bitmap_size columns) (bits_length (bitmap_size columns) columns), all_again (bitmap_size columns) columns) refl
