-- Bytes as a line shows them, so that a line stays one line of plain ASCII.
use Rattle.std.specs.Prelude.{ℕ, Bool, ◌==◌, ◌&&◌, not, nat_le, if◌then◌else◌, List, [], ◌∷◌, ◌++◌, flat_map, codes}
use Rattle.hex.specs.Hex.{encode_lower}

-- a byte that shows as itself: from 20 to 7E in hexadecimal, and no backslash
abbrev pub is_plain : ℕ → Bool
is_plain b = nat_le 0x20 b && nat_le b 0x7e && not (b == 0x5c)

-- a byte: itself, or a backslash, `x` and its two hexadecimal digits in lower case
abbrev pub escaped : ℕ → List ℕ
escaped b = if is_plain b then b ∷ [] else 0x5c ∷ codes "x" ++ encode_lower (b ∷ [])

-- bytes, one after the other
abbrev pub escapes : List ℕ → List ℕ
escapes bytes = flat_map escaped bytes

-- the bytes before the first 0
abbrev pub before_zero : List ℕ → List ℕ
before_zero [] = []
before_zero (b ∷ bs) = if b == 0 then [] else b ∷ before_zero bs
