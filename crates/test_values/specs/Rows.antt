-- Rows of values.
use Rattle.std.specs.Prelude.{ℕ, ◌+◌, List, [], ◌∷◌, length}
use Rattle.val_types.specs.declared.value.Value.{Value}

-- how many values rows have together
abbrev pub widths : List (List Value) → ℕ
widths [] = 0
widths (row ∷ rows) = length row + widths rows
