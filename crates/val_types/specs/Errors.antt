-- The numbers of SQL errors that values and operators meet, as MySQL's manual lists them.
use Rattle.std.specs.Prelude.{ℕ}

-- a text longer than an expression's value may be
abbrev pub text_too_long : ℕ
text_too_long = 1153

-- a number past the range of its column's type
abbrev pub out_of_range : ℕ
out_of_range = 1264

-- DIV or MOD by zero
abbrev pub division_by_zero : ℕ
division_by_zero = 1365

-- a text longer than its column allows
abbrev pub too_long_for_column : ℕ
too_long_for_column = 1406

-- a number past 64 bits
abbrev pub number_overflow : ℕ
number_overflow = 1690

-- a text among numbers, or a number among texts; this project's own number
abbrev pub kinds_mixed : ℕ
kinds_mixed = 30002
