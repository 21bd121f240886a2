-- The numbers that RAND() draws.
use Rattle.std.specs.Prelude.{ℕ, ◌+◌, ◌*◌, ◌%◌, Result, Ok, Err, pos, ◌*ℤ◌}
use Rattle.std.specs.Int.{int_div_euclid}
use Rattle.val_types.specs.declared.value.Value.{Value}
use Rattle.val_types.specs.declared.value.Value.TheVariants.{Null, Int, Text}
use Rattle.val_types.specs.Errors.{kinds_mixed}
use Rattle.value_rules.specs.Operators.{number}

-- the seeds are taken modulo this number
abbrev pub seed_bound : ℕ
seed_bound = 1073741823

-- the first seed after a draw
abbrev pub next_first : ℕ → ℕ → ℕ
next_first s1 s2 = (3 * s1 + s2) % seed_bound

-- the second seed after a draw, which the new first one and the old second one make
abbrev pub next_second : ℕ → ℕ → ℕ
next_second s1 s2 = (next_first s1 s2 + s2 + 33) % seed_bound

-- both seeds after a draw
abbrev pub seeds_after : ℕ → ℕ → ℕ × ℕ
seeds_after s1 s2 = (next_first s1 s2, next_second s1 s2)

-- FLOOR(RAND() * n), with the first seed that the draw has set: the floor of s1 * n / seed_bound
abbrev pub scaled : ℕ → Value → Result Value ℕ
scaled s1 Null = Ok Null
scaled s1 (Int n) = number (int_div_euclid (pos s1 *ℤ n) (pos seed_bound))
scaled s1 (Text t) = Err kinds_mixed
