-- Targets and values, side by side.
use Rattle.std.proofs.Common.{◌≡◌, ◌<◌, List, [], ◌∷◌, length, zip, refl, arith}

pub none_zipped : {A B : Type 0} (xs : List A) (ys : List B) → length ys < 1 → zip xs ys ≡ []
none_zipped [] ys none = refl
none_zipped (x ∷ xs) [] none = refl
none_zipped (x ∷ xs) (y ∷ ys) none = grind (arith, none)

pub nothing_zipped : {A B : Type 0} (xs : List A) (ys : List B) → ys ≡ [] → zip xs ys ≡ []
nothing_zipped [] ys none = refl
nothing_zipped (x ∷ xs) [] none = refl
nothing_zipped (x ∷ xs) (y ∷ ys) none = cc

pub ruleset zipping = (none_zipped, nothing_zipped)
