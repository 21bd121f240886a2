-- Lengths in 64 bits.
use Rattle.std.specs.Prelude.{ℕ, suc, ◌-◌, ◌^◌, nat_lt, if◌then◌else◌, List, [], ◌∷◌}

-- the greatest number of 64 bits
abbrev pub greatest : ℕ
greatest = 2 ^ 64 - 1

-- one byte more; the greatest number stays
unfoldable pub one_more : ℕ → ℕ
one_more n = if nat_lt n greatest then suc n else n

-- a length with that of a text behind it
abbrev pub grown : ℕ → List ℕ → ℕ
grown n [] = n
grown n (b ∷ bytes) = grown (one_more n) bytes
