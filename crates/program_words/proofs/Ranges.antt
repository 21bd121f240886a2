-- The range of a number of values.
use Rattle.std.proofs.Common.{◌≡◌, ℕ, max, Option, Some, None, IsSomeAnd, refl}
use Rattle.clap.specs.declared.builder.range.ValueRange.{ValueRange}

-- from one number to another, which is not less
abbrev pub range_of : ℕ → ℕ → ValueRange
range_of least most = record { start_inclusive = least; end_inclusive = max most least }

pub some_range : (o : Option ValueRange) (P : ValueRange → Type 0) → IsSomeAnd o P → (r : ValueRange) × (o ≡ Some r) × P r
some_range None P told = absurd told
some_range (Some r) P told = (r, refl, told)
