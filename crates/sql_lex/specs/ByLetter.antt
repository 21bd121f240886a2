-- The keywords by the first letters of their words.
use Rattle.std.specs.Prelude.{ℕ, ◌-◌, zero, suc, if◌then◌else◌, List, [], ◌∷◌, map}
use Rattle.std.specs.Char.{is_ascii_lowercase}
use Rattle.sql_lex.specs.declared.keyword.Keyword.{Keyword}
use Rattle.sql_lex.specs.declared.words.TheConstants.{BY_LETTER}

-- the row at a place, empty past the last
abbrev pub row_at : ℕ → List (List Keyword) → List Keyword
row_at i [] = []
row_at zero (ks ∷ rows) = ks
row_at (suc i) (ks ∷ rows) = row_at i rows

-- the keywords whose words begin with a small letter, as the table has them; none for another byte
abbrev pub beginning_with : ℕ → List Keyword
beginning_with b = if is_ascii_lowercase b then row_at (b - 97) (map (λ row. row.now) BY_LETTER) else []
