-- Ranges of values, and which values are in them.
use Rattle.std.specs.Prelude.{◌≡◌, Bool, true, ◌&&◌, ◌||◌, if◌then◌else◌, Option, Some, None, is_some}
use Rattle.std.specs.Option.{option_map, option_map_or}
use Rattle.std.specs.Ordering.{is_lt, is_le, is_gt, is_ge}
use Rattle.val_types.specs.declared.value.Value.{Value}
use Rattle.val_types.specs.Order.{value_order}
use Rattle.value_ranges.specs.declared.ends.End.{End}
use Rattle.value_ranges.specs.declared.ranges.ValueRange.{ValueRange}

-- a value at which a range ends, and whether it is in the range itself
pub record Bound : Type 0 where
  pub value : Value
  pub among : Bool

-- values from one end to another, where there are ends
pub record Range : Type 0 where
  pub low : Option Bound
  pub high : Option Bound

-- ---- what the code's values stand for

abbrev pub bound_of : End → Bound
bound_of e = record { value = e.value.now; among = e.among }

abbrev pub range_of : ValueRange → Range
range_of r = record { low = option_map bound_of r.low; high = option_map bound_of r.high }

-- ---- values

-- whether a value is on the inner side of a lower end
abbrev pub is_above : Bound → Value → Bool
is_above low v = if low.among then is_ge (value_order v low.value) else is_gt (value_order v low.value)

-- whether it is so of an upper end
abbrev pub is_below : Bound → Value → Bool
is_below high v = if high.among then is_le (value_order v high.value) else is_lt (value_order v high.value)

-- whether a value is not before a range
abbrev pub is_from : Option Bound → Value → Bool
is_from low v = option_map_or (λ (b : Bound). is_above b v) low true

-- whether it is not behind one
abbrev pub is_to : Option Bound → Value → Bool
is_to high v = option_map_or (λ (b : Bound). is_below b v) high true

-- whether a value is in a range
abbrev pub is_in : Range → Value → Bool
is_in range v = is_from range.low v && is_to range.high v

-- whether a range has an end
abbrev pub has_end : Range → Bool
has_end range = is_some range.low || is_some range.high

-- ---- two ranges

-- the range without ends
abbrev pub everything : Range
everything = record { low = None; high = None }

-- the one of two lower ends that leaves more out
abbrev pub later_of : Bound → Bound → Bound
later_of a b = if is_above a b.value then b else a

-- the one of two upper ends that leaves more out
abbrev pub earlier_of : Bound → Bound → Bound
earlier_of a b = if is_below a b.value then b else a

-- the same where each may be missing
abbrev pub met_low : Option Bound → Option Bound → Option Bound
met_low None b = b
met_low (Some a) None = Some a
met_low (Some a) (Some b) = Some (later_of a b)

abbrev pub met_high : Option Bound → Option Bound → Option Bound
met_high None b = b
met_high (Some a) None = Some a
met_high (Some a) (Some b) = Some (earlier_of a b)

-- the values of both ranges
abbrev pub met : Range → Range → Range
met a b = record { low = met_low a.low b.low; high = met_high a.high b.high }

-- they are those that are in both
abbrev pub RangesMeet : Type 0
RangesMeet = (a b : Range) (v : Value) → is_in (met a b) v ≡ (is_in a v && is_in b v)

-- ---- an end parts lower values from higher ones

abbrev pub FromOn : Type 0
FromOn = (low : Option Bound) (v w : Value) → is_ge (value_order w v) ≡ true → is_from low v ≡ true → is_from low w ≡ true

abbrev pub ToOn : Type 0
ToOn = (high : Option Bound) (v w : Value) → is_ge (value_order w v) ≡ true → is_to high w ≡ true → is_to high v ≡ true
