-- Names that rise byte by byte, and the place of a name among them.
use Rattle.std.specs.Prelude.{◌≡◌, ℕ, suc, Bool, false, if◌then◌else◌, List, [], ◌∷◌, Option, Some, None}
use Rattle.std.specs.declared.cmp.Ordering.{Ordering}
use Rattle.std.specs.declared.cmp.Ordering.TheVariants.{Less}
use Rattle.std.specs.Ordering.{nat_cmp, is_lt}
use Rattle.std.specs.Cmp.Lexicographic.{slice_cmp}
use Rattle.sql_reach.specs.catalog_rules.Names.{same_name}

abbrev pub by_bytes : List ℕ → List ℕ → Ordering
by_bytes a b = slice_cmp nat_cmp a b

-- all names are above one
abbrev pub Above : List ℕ → List (List ℕ) → Type 0
Above low [] = Unit {0}
Above low (name ∷ names) = (by_bytes low name ≡ Less) × Above low names

abbrev pub Rises : List (List ℕ) → Type 0
Rises [] = Unit {0}
Rises (name ∷ names) = Above name names × Rises names

-- whether a name stands before another
abbrev pub is_before : List ℕ → List ℕ → Bool
is_before name other = is_lt (by_bytes other name)

-- how many names stand before one
abbrev pub place : List ℕ → List (List ℕ) → ℕ
place name [] = 0
place name (first ∷ names) = if is_before name first then suc (place name names) else 0

-- whether a name is what stands at a place
abbrev pub is_name_at : Option (List ℕ) → List ℕ → Bool
is_name_at None name = false
is_name_at (Some other) name = same_name other name
