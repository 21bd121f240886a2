-- Journals by hand.
use Rattle.std.specs.Prelude.{ℕ, List, [], ◌∷◌}

-- two records, of three bytes and of none, and a closed gate
abbrev pub two_records : List ℕ
two_records = 1 ∷ 3 ∷ 0 ∷ 0 ∷ 0 ∷ 97 ∷ 98 ∷ 99 ∷ 255 ∷ 0 ∷ 0 ∷ 0 ∷ 0 ∷ 0 ∷ []

-- the same, and a body of one byte staged behind the gate
abbrev pub one_staged : List ℕ
one_staged = 1 ∷ 3 ∷ 0 ∷ 0 ∷ 0 ∷ 97 ∷ 98 ∷ 99 ∷ 255 ∷ 0 ∷ 0 ∷ 0 ∷ 0 ∷ 0 ∷ 1 ∷ 0 ∷ 0 ∷ 0 ∷ 100 ∷ 0 ∷ []

-- the same, with its gate open
abbrev pub three_records : List ℕ
three_records = 1 ∷ 3 ∷ 0 ∷ 0 ∷ 0 ∷ 97 ∷ 98 ∷ 99 ∷ 255 ∷ 0 ∷ 0 ∷ 0 ∷ 0 ∷ 1 ∷ 1 ∷ 0 ∷ 0 ∷ 0 ∷ 100 ∷ 0 ∷ []
