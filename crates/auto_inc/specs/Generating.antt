-- The values that a statement generates for an AUTO_INCREMENT column.
use Rattle.std.specs.Prelude.{◌≡◌, ℕ, ◌+◌, ◌-◌, ◌%◌, ◌<◌, ◌≤◌, nat_lt, nat_le, if◌then◌else◌, Option, Some, None, ℤ, pos, int_le}
use Rattle.auto_inc.specs.Counting.{behind}

-- what a statement has generated: its first value, and its own next number; None before the first value
abbrev pub Sequence : Type 0
Sequence = Option (ℤ × ℕ)

-- the offset that counts: one above the increment counts as 0
abbrev pub used_offset : ℕ → ℕ → ℕ
used_offset increment offset = if nat_lt increment offset then 0 else offset

-- the least number at or above a number that leaves the same rest by the increment as the offset
abbrev pub least_congruent : ℕ → ℕ → ℕ → ℕ
least_congruent increment offset from =
    let block = from - from % increment in
    let wanted = offset % increment in
    if nat_le from (block + wanted) then block + wanted else block + increment + wanted

-- where a statement looks for its next value: at the table's counter before its first value, then at its own next number
abbrev pub start_of : ℕ → Sequence → ℕ
start_of counter None = counter
start_of counter (Some generated) = generated.1

-- the next value that a statement generates, None where it is past the greatest of the column's type
abbrev pub next_value : ℕ → ℕ → ℕ → ℤ → Sequence → Option ℤ
next_value counter increment offset top sequence =
    let value = least_congruent increment (used_offset increment offset) (start_of counter sequence) in
    if int_le (pos value) top then Some (pos value) else None

-- the sequence behind a generated value
abbrev pub after_generated : ℤ → Sequence → Sequence
after_generated value None = Some (value, behind value)
after_generated value (Some generated) = Some (generated.0, behind value)

-- the sequence behind an explicit value: one at or above the next number moves that
abbrev pub after_explicit : ℤ → Sequence → Sequence
after_explicit value None = None
after_explicit value (Some generated) =
    if int_le (pos generated.1) value then Some (generated.0, behind value) else Some generated

-- the least number at or above a number with the rest of the offset is just that
abbrev pub LeastCongruent : Type 0
LeastCongruent =
    (increment offset from : ℕ) → 0 < increment
    → (from ≤ least_congruent increment offset from)
    × (least_congruent increment offset from % increment ≡ offset % increment)
    × ((other : ℕ) → from ≤ other → other % increment ≡ offset % increment → least_congruent increment offset from ≤ other)
