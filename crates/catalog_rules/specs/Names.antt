-- Names in lists.
use Rattle.std.specs.Prelude.{ℕ, suc, Bool, false, ◌||◌, nat_eq, if◌then◌else◌, List, [], ◌∷◌, Option, Some, None}
use Rattle.std.specs.List.{list_any}
use Rattle.std.specs.Option.{option_map}
use Rattle.std.specs.Cmp.Lexicographic.{pointwise}

-- whether two names are the same; names are in lower case wherever they come from
abbrev pub same_name : List ℕ → List ℕ → Bool
same_name a b = pointwise nat_eq a b

-- whether a name stands among others
abbrev pub is_among : List (List ℕ) → List ℕ → Bool
is_among names name = list_any (same_name name) names

-- whether a name stands twice among some
abbrev pub has_twice : List (List ℕ) → Bool
has_twice [] = false
has_twice (name ∷ names) = is_among names name || has_twice names

-- the place of the first one of a name, counted from 0
abbrev pub place_among : List (List ℕ) → List ℕ → Option ℕ
place_among [] name = None
place_among (first ∷ names) name = if same_name name first then Some 0 else option_map suc (place_among names name)

-- the first thing that is made of an item
abbrev pub first_made : {A B : Type 0} → (A → Option B) → List A → Option B
first_made make [] = None
first_made make (a ∷ as') = elim (make a) [ None ↦ first_made make as' | Some b ↦ Some b ]
