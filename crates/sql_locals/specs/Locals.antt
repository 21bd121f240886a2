-- Local variables in scope: which one a name means, and an assignment to it.
use Rattle.std.specs.Prelude.{ℕ, suc, nat_eq, Bool, true, false, if◌then◌else◌, List, [], ◌∷◌, Option, Some, None, is_some}
use Rattle.std.specs.Cmp.Lexicographic.{pointwise}
use Rattle.val_types.specs.declared.value.Value.{Value}
use Rattle.sql_tree.specs.Well.{is_literal}
use Rattle.sql_locals.specs.declared.locals.Local.{Local}

-- the last local variable of a name, or else this one
abbrev pub find_from : Option Local → List Local → List ℕ → Option Local
find_from found [] name = found
find_from found (l ∷ ls) name = find_from (if pointwise nat_eq l.name name then Some l else found) ls name

-- the last local variable of a name
abbrev pub find_local : List Local → List ℕ → Option Local
find_local ls name = find_from None ls name

-- the locals, the last of a name with another value
abbrev pub set_local : List ℕ → Value → List Local → List Local
set_local n v [] = []
set_local n v (l ∷ ls) =
    if is_some (find_local ls n) then l ∷ set_local n v ls
    else if pointwise nat_eq l.name n then record l { value = v } ∷ ls
    else l ∷ ls

-- a local holds what a literal can say
abbrev pub has_literal : Local → Bool
has_literal l = is_literal l.value

-- the place of the last of some local variables, by whether the first is one and the place in those behind it
abbrev pub place_behind : Bool → Option ℕ → Option ℕ
place_behind is_first (Some k) = Some (suc k)
place_behind true None = Some 0
place_behind false None = None

-- the place of the last of a name, counted from 0
abbrev pub last_place : List Local → List ℕ → Option ℕ
last_place [] n = None
last_place (l ∷ ls) n = place_behind (pointwise nat_eq l.name n) (last_place ls n)
