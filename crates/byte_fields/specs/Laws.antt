-- Laws of fields and of lists of things.
use Rattle.std.specs.Prelude.{◌≡◌, ◌<◌, ◌^◌, ℕ, List, ◌++◌, length, Ok}
use Rattle.byte_fields.specs.Field.{number_at, number_bytes}
use Rattle.byte_fields.specs.LengthEncoded.{lenenc_at, lenenc_bytes}

-- a number that is written is read again, whatever follows it
abbrev pub FieldsAreReadAgain : Type 0
FieldsAreReadAgain = (count n : ℕ) (rest : List ℕ) → n < 256 ^ count → number_at 0 count (number_bytes count n ++ rest) ≡ n

-- a number takes as many bytes as its field has
abbrev pub FieldsHaveTheirWidth : Type 0
FieldsHaveTheirWidth = (count n : ℕ) → length (number_bytes count n) ≡ count

-- a length-encoded integer that is written is read again, whatever follows it
abbrev pub LengthEncodedAreReadAgain : Type 0
LengthEncodedAreReadAgain = (n : ℕ) (rest : List ℕ) → n < 2 ^ 64 → lenenc_at (lenenc_bytes n ++ rest) 0 ≡ Ok (n, length (lenenc_bytes n))
