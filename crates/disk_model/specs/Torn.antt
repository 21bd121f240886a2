-- A write that a crash cuts short.
use Rattle.std.specs.Prelude.{◌≡◌, ℕ, ◌+◌, ◌≤◌, max, List, length, take, drop}
use Rattle.hex.specs.Hex.{IsBytes}

-- what a crash may leave of a durable file after one write of n bytes: any bytes in the range and past the old end,
-- the same elsewhere
pub record Torn (at n : ℕ) (old new : List ℕ) : Type 0 where
  pub before : take at new ≡ take at old
  pub after : drop (at + n) new ≡ drop (at + n) old
  pub no_shorter : length old ≤ length new
  pub no_longer : length new ≤ max (length old) (at + n)
  pub bytes : IsBytes new
