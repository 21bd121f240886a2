-- What holds of lists where it holds of their items.
use Rattle.std.proofs.Common.{◌≡◌, List, [], ◌∷◌, Ordering, Less, Equal, Greater, refl, Result, Ok, Err, IfOk, MatchResult}
use Rattle.std.specs.Ordering.{ordering_then}
use Rattle.std.specs.List.{AllZip}
use Rattle.std.specs.Cmp.Lexicographic.{slice_cmp}
use Rattle.std.proofs.lemmas.List.Elements.{same_from_all_zip}

both_equal : (o p : Ordering) → ordering_then o p ≡ Equal → (o ≡ Equal) × (p ≡ Equal)
both_equal Less p e = (cc, cc)
both_equal Equal p e = (refl, e)
both_equal Greater p e = (cc, cc)

-- lists that compare as equal are equal, where items that do are
pub list_exact : {X : Type 0} (R : X → X → Ordering) → ((a b : X) → R a b ≡ Equal → a ≡ b) → (xs ys : List X) → slice_cmp R xs ys ≡ Equal → xs ≡ ys
list_exact R exact [] [] e = refl
list_exact R exact [] (y ∷ ys) e = cc
list_exact R exact (x ∷ xs) [] e = cc
list_exact R exact (x ∷ xs) (y ∷ ys) e =
    let parts = both_equal (R x y) (slice_cmp R xs ys) e in
    let first = exact x y parts.0 in
    let rest = list_exact R exact xs ys parts.1 in cc

-- a clone of a list is equal to it, where the clones of its items are
pub list_cloned : {X E : Type 0} (R : X → X → Type 0) (Q : E → Type 0) → ((x y : X) → R x y → y ≡ x) → (xs : List X) (r : Result (List X) E) → MatchResult r (AllZip R xs) Q → IfOk r (λ ys. ys ≡ xs)
list_cloned R Q same xs (Ok ys) zip = same_from_all_zip R xs ys zip same
list_cloned R Q same xs (Err e) fails = tt
