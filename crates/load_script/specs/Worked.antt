-- Lines, of which worked examples are made.
use Rattle.std.specs.Prelude.{ℕ, List, [], ◌∷◌, ◌++◌}

-- these lines, each with a line feed behind it
abbrev pub lines : List (List ℕ) → List ℕ
lines [] = []
lines (line ∷ rest) = line ++ 0x0a ∷ lines rest
