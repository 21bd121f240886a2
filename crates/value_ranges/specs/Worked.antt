-- Ranges of which worked examples are made.
use Rattle.std.specs.Prelude.{ℕ, pos, true, false, Some}
use Rattle.val_types.specs.declared.value.Value.{Value}
use Rattle.val_types.specs.declared.value.Value.TheVariants.{Int}
use Rattle.value_ranges.specs.Ranges.{Range}

abbrev pub number : ℕ → Value
number n = Int (pos n)

-- from a number on, to another without it
abbrev pub between : ℕ → ℕ → Range
between m n = record { low = Some (record { value = number m; among = true }); high = Some (record { value = number n; among = false }) }
