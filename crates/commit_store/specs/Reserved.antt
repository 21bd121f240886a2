-- Where logs end, with room for more.
use Rattle.std.specs.Prelude.{ℕ, List}

-- the places where logs end, and how many more can be put without memory
pub record LogEnds : Type 0 where
  pub list : List ℕ
  pub room : ℕ
