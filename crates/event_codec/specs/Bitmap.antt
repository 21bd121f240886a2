-- A bit for each column, eight in a byte, the first column's the lowest.
use Rattle.std.specs.Prelude.{ℕ, zero, suc, ◌+◌, ◌-◌, ◌/◌, ◌%◌, ◌^◌, ◌==◌, ◌&&◌, nat_le, if◌then◌else◌, Bool, true, List, [], ◌∷◌, Result, Ok}
use Rattle.event_codec.specs.declared.fault.Fault.{Fault}
use Rattle.event_codec.specs.Parts.{◌>>=◌, part}

-- how many bytes the bits of so many columns take
abbrev pub bitmap_size : ℕ → ℕ
bitmap_size columns = (columns + 7) / 8

-- the bits of a byte that stand for columns, where so many are left
abbrev pub mask : ℕ → ℕ
mask columns = if nat_le 8 columns then 255 else 2 ^ columns - 1

-- each column's bit is set; further bits are not looked at
abbrev pub all_present : ℕ → List ℕ → Bool
all_present columns [] = true
all_present columns (b ∷ bs) = b % (mask columns + 1) == mask columns && all_present (columns - 8) bs

-- no further bit is set
abbrev pub clear_behind : ℕ → List ℕ → Bool
clear_behind columns [] = true
clear_behind columns (b ∷ bs) = nat_le b (mask columns) && clear_behind (columns - 8) bs

-- so many bytes with each column's bit
abbrev pub present_bits : ℕ → ℕ → List ℕ
present_bits zero columns = []
present_bits (suc count) columns = mask columns ∷ present_bits count (columns - 8)

-- a bitmap: whether all columns are present, and the bytes behind it
abbrev pub present : ℕ → List ℕ → Result (Bool × List ℕ) Fault
present columns bytes = do
  bits ← part (bitmap_size columns) bytes
  Ok (all_present columns bits.0, bits.1)
