-- A text of which a front was written and the rest is gathered.
use Rattle.std.specs.Prelude.{◌≡◌, ℕ, List, ◌++◌, Option}
use Rattle.run_streams.specs.Wrote.{Wrote}

-- what was written and what is gathered are this text
pub record Gathers (before now : Option (List ℕ)) (gathered text : List ℕ) : Type 0 where
  pub written : List ℕ
  pub wrote : Wrote before now written
  pub joined : written ++ gathered ≡ text
