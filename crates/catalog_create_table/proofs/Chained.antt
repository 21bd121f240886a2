-- Checks, one behind the other.
use Rattle.std.proofs.Common.{◌≡◌, ℕ, Bool, Option, Some, ◌∙◌}
use Rattle.std.specs.Prelude.{if◌then◌else◌}

-- a check before others
pub chained : (r : Option ℕ) (b check : Bool) (code : ℕ) (rest later : Option ℕ) → r ≡ (if b then Some code else rest) → b ≡ check → rest ≡ later → r ≡ (if check then Some code else later)
chained r b check code rest later e f g = e ∙ (λ i. if f i then Some code else g i)
