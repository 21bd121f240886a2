-- Length-encoded integers: one byte below 251; 252, 253 or 254 and 2, 3 or 8 bytes.
use Rattle.std.specs.Prelude.{ℕ, ◌+◌, ◌==◌, ◌^◌, nat_lt, nat_le, if◌then◌else◌, List, [], ◌∷◌, length, slice_index, Result, Ok, Err}
use Rattle.byte_fields.specs.declared.refusal.LenRefusal.{LenRefusal}
use Rattle.byte_fields.specs.declared.refusal.LenRefusal.TheVariants.{Short, Bad}
use Rattle.byte_fields.specs.Field.{number_at, number_bytes}

-- how many bytes one has behind a first byte from 252 to 254
abbrev pub bytes_behind : ℕ → ℕ
bytes_behind first = if first == 252 then 2 else if first == 253 then 3 else 8

-- the number behind a first byte
abbrev pub lenenc_behind : ℕ → List ℕ → ℕ → Result (ℕ × ℕ) LenRefusal
lenenc_behind count bytes place =
    if nat_lt (length bytes) (place + 1 + count) then Err (Short (1 + count))
    else Ok (number_at (place + 1) count bytes, place + 1 + count)

-- by its first byte: the number itself below 251; 251 and 255 begin none
abbrev pub lenenc_from : ℕ → List ℕ → ℕ → Result (ℕ × ℕ) LenRefusal
lenenc_from first bytes place =
    if nat_lt first 251 then Ok (first, place + 1)
    else if first == 251 then Err Bad
    else if first == 255 then Err Bad
    else lenenc_behind (bytes_behind first) bytes place

-- the one at a place, and the place behind it
unfoldable pub lenenc_at : List ℕ → ℕ → Result (ℕ × ℕ) LenRefusal
lenenc_at bytes place =
    if nat_le (length bytes) place then Err (Short 1) else lenenc_from (slice_index bytes place) bytes place

-- the shortest spelling of a number
unfoldable pub lenenc_bytes : ℕ → List ℕ
lenenc_bytes n =
    if nat_lt n 251 then n ∷ [] else if nat_lt n (2 ^ 16) then 252 ∷ number_bytes 2 n
    else if nat_lt n (2 ^ 24) then 253 ∷ number_bytes 3 n else 254 ∷ number_bytes 8 n
