-- How many rows entries put where no committed row has their key, and how many committed rows they take out.
use Rattle.std.specs.Prelude.{◌+◌, ◌&&◌, ℕ, Bool, true, false, List, [], ◌∷◌, is_some, is_none}
use Rattle.row_index.specs.row_sheets.Slots.{Slot, held}

-- one where something is so
abbrev pub one_if : Bool → ℕ
one_if true = 1
one_if false = 0

-- rows that are put
abbrev pub puts : List Slot → List Slot → ℕ
puts committed [] = 0
puts committed (entry ∷ entries) = one_if (is_some entry.row && is_none (held entry.key committed)) + puts committed entries

-- rows that are taken out
abbrev pub takes : List Slot → List Slot → ℕ
takes committed [] = 0
takes committed (entry ∷ entries) = one_if (is_none entry.row && is_some (held entry.key committed)) + takes committed entries
