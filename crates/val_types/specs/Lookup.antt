-- Lookup in a list: what is made of it at the first item that passes a test. `find` of std gives that item, `position` its place.
use Rattle.std.specs.Prelude.{Bool, if◌then◌else◌, List, [], ◌∷◌}

-- the items, the first that passes changed
abbrev pub change_first : {X : Type 0} → (X → Bool) → (X → X) → List X → List X
change_first test change [] = []
change_first test change (x ∷ xs) = if test x then change x ∷ xs else x ∷ change_first test change xs

-- the items without the first that passes
abbrev pub remove_first : {X : Type 0} → (X → Bool) → List X → List X
remove_first test [] = []
remove_first test (x ∷ xs) = if test x then xs else x ∷ remove_first test xs
