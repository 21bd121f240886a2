-- A UUID as text.
use Rattle.std.specs.Prelude.{ℕ, List, ◌++◌, take, drop, codes}
use Rattle.std.specs.Int.{to_be_bytes, w128}
use Rattle.hex.specs.Hex.{encode_lower}

-- the 16 bytes of a number of 128 bits in hexadecimal, the most significant first
unfoldable pub uuid_digits : ℕ → List ℕ
uuid_digits n = encode_lower (to_be_bytes w128 n)

-- 32 digits in groups of 8, 4, 4, 4 and 12
abbrev pub grouped : List ℕ → List ℕ
grouped digits =
    take 8 digits ++ codes "-" ++ take 4 (drop 8 digits) ++ codes "-" ++ take 4 (drop 12 digits)
    ++ codes "-" ++ take 4 (drop 16 digits) ++ codes "-" ++ drop 20 digits

-- the text of the UUID of a number of 128 bits
unfoldable pub uuid_text : ℕ → List ℕ
uuid_text n = grouped (uuid_digits n)
