-- Numbers in bytes, least byte first.
use Rattle.std.specs.Prelude.{◌≡◌, ℕ, ◌+◌, nat_lt, if◌then◌else◌, List, length, take, drop, Result, Ok, Err}
use Rattle.byteorder.specs.Endian.{little_number, little_bytes}
use Rattle.byte_fields.specs.declared.refusal.Short.{Short}

-- the number in some bytes from a place on: place, count of bytes, bytes
unfoldable pub number_at : ℕ → ℕ → List ℕ → ℕ
number_at place count bytes = little_number count (drop place bytes)

-- a number as so many bytes
unfoldable pub number_bytes : ℕ → ℕ → List ℕ
number_bytes count n = little_bytes count n

-- some bytes have others in front
abbrev pub BeginsWith : List ℕ → List ℕ → Type 0
BeginsWith bytes front = take (length front) bytes ≡ front

-- the field of so many bytes at a place, and the place behind it
abbrev pub field_at : ℕ → List ℕ → ℕ → Result (ℕ × ℕ) Short
field_at count bytes place =
    if nat_lt (length bytes) (place + count) then Err (record { need = count })
    else Ok (number_at place count bytes, place + count)
