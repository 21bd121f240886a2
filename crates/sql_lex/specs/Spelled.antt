-- How tokens are written.
use Rattle.std.specs.Prelude.{◌≡◌, ℕ, Bool, true, false, not, ◌&&◌, ◌==◌, if◌then◌else◌, List, [], ◌∷◌, ◌++◌}

-- bytes with each backquote doubled
abbrev pub doubled : List ℕ → List ℕ
doubled [] = []
doubled (b ∷ bs) = (if b == 96 then 96 ∷ 96 ∷ [] else b ∷ []) ++ doubled bs

-- a name in backquotes, before other bytes
abbrev pub in_backquotes : List ℕ → List ℕ → List ℕ
in_backquotes name rest = 96 ∷ (doubled name ++ 96 ∷ rest)

-- each byte is of the class
abbrev pub AllOf : (ℕ → Bool) → List ℕ → Type 0
AllOf class [] = Unit {0}
AllOf class (b ∷ bs) = (class b ≡ true) × AllOf class bs

-- no byte of the class is next
abbrev pub Ends : (ℕ → Bool) → List ℕ → Type 0
Ends class [] = Unit {0}
Ends class (b ∷ bs) = class b ≡ false

-- a byte that stands for itself between quotes
abbrev pub is_simple : ℕ → Bool
is_simple b = not (b == 39) && not (b == 92)
