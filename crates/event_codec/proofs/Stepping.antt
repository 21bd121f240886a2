-- Lists that are looked at item by item.
use Rattle.std.proofs.Common.{◌≡◌, ℕ, ◌+◌, ◌-◌, ◌%◌, ◌<◌, List, drop, length, get_or, refl, ap, zero, suc, [], ◌∷◌, ◌++◌, append_assoc, length-append, ◌≤◌, arith, add-one, drop-cons}
use Rattle.std.specs.Prelude.{◌==◌, ◌&&◌, if◌then◌else◌}
use Rattle.event_codec.specs.Bitmap.{mask, all_present, present_bits}
use Rattle.event_codec.specs.Columns.{is_known, are_known, texts}

-- the bits of a byte, and those behind it
pub present_step : (bits : List ℕ) (i left b : ℕ) → i < length bits → get_or bits i 0 ≡ b
    → all_present left (drop i bits) ≡ (b % (mask left + 1) == mask left && all_present (left - 8) (drop (i + 1) bits))
present_step bits i left b low is = let next : i + 1 ≡ suc i = omega arith in rw (next, drop-cons bits i 0, is) refl

-- a column's type, and those behind it
pub known_step : (kinds : List ℕ) (i kind : ℕ) → i < length kinds → get_or kinds i 0 ≡ kind
    → are_known (drop i kinds) ≡ (is_known kind && are_known (drop (i + 1) kinds))
known_step kinds i kind low is = rw (add-one, drop-cons kinds i 0, is) refl

pub texts_step : (kinds : List ℕ) (i kind : ℕ) → i < length kinds → get_or kinds i 0 ≡ kind
    → texts (drop i kinds) ≡ (if kind == 15 then 1 else 0) + texts (drop (i + 1) kinds)
texts_step kinds i kind low is = rw (add-one, drop-cons kinds i 0, is) refl

-- the first of some bytes with each column's bit
pub bits_step : (count i columns : ℕ) → i < count → present_bits (count - i) columns ≡ mask columns ∷ present_bits (count - (i + 1)) (columns - 8)
bits_step count i columns low = let next : count - i ≡ suc (count - (i + 1)) = omega arith in rw next refl

pub bits_length : (count columns : ℕ) → length (present_bits count columns) ≡ count
bits_length zero columns = refl
bits_length (suc count) columns = ap suc (bits_length count (columns - 8))

-- bytes that grew by the first of those that are left
pub bits_grow : (whole out new : List ℕ) (count i left next bits : ℕ) → out ++ present_bits (count - i) left ≡ whole → i < count
    → new ≡ out ++ (bits ∷ []) → bits ≡ mask left → next ≡ left - 8 → new ++ present_bits (count - (i + 1)) next ≡ whole
bits_grow whole out new count i left next bits before low grown is less =
    let first = bits_step count i left low in
    rw (grown, is, less, append_assoc) (rw first at before)

-- bytes that grow stay longer than what they began with
pub longer : (front out new : List ℕ) (byte : ℕ) → new ≡ out ++ (byte ∷ []) → length front ≤ length out → length front ≤ length new
longer front out new byte grown long = rw grown (omega (arith, length-append out (byte ∷ [])))
