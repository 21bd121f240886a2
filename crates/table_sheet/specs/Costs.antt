-- How many comparisons a search by key makes.
use Rattle.std.specs.Prelude.{◌+◌, ◌*◌, ◌^◌, ◌<◌, ◌≤◌, ℕ}

-- so many comparisons are at most two more than two counts have binary digits together
abbrev pub AreWithinBoth : ℕ → ℕ → ℕ → Type 0
AreWithinBoth first second steps = (a b : ℕ) → first < 2 ^ a → second < 2 ^ b → steps ≤ a + b + 2

-- so many are at most three more than one count has binary digits twice, and another once
abbrev pub AreWithinTwice : ℕ → ℕ → ℕ → Type 0
AreWithinTwice first second steps = (a b : ℕ) → first < 2 ^ a → second < 2 ^ b → steps ≤ 2 * a + b + 3
