-- What stands at the end of a stream that was written, where the stream tells.
use Rattle.std.specs.Prelude.{◌≡◌, ℕ, List, ◌++◌, Option, option_map}

-- these bytes came to the end
abbrev pub Wrote : Option (List ℕ) → Option (List ℕ) → List ℕ → Type 0
Wrote before after bytes = after ≡ option_map (λ written. written ++ bytes) before

-- a front of these bytes came to the end
pub record WroteFront (before after : Option (List ℕ)) (whole : List ℕ) : Type 0 where
  pub front : List ℕ
  pub rest : List ℕ
  pub split : front ++ rest ≡ whole
  pub wrote : Wrote before after front

-- a front of the bytes came to the end, and these are left to write
pub record Writing (before now : Option (List ℕ)) (whole rest : List ℕ) : Type 0 where
  pub front : List ℕ
  pub split : front ++ rest ≡ whole
  pub wrote : Wrote before now front
