-- Sorting by putting each element in front of the first that does not come before it.
use Rattle.std.proofs.Common.{◌≡◌, List, [], ◌∷◌, Bool, true, false, not, cond, refl, sym, ap, ◌∙◌}
use Rattle.std.specs.Cmp.{IsStrictWeakOrder}
use Rattle.std.specs.List.{filter}
use Rattle.std.specs.List.Sorted.{IsPermutation, ties}
use Rattle.std.proofs.lemmas.Bool.{true≢false, and_parts, not-true}
use Rattle.std.proofs.lemmas.List.Sorted.{IsPermutation-refl, IsPermutation-cons, IsPermutation-trans, IsPermutation-append_left, IsPermutation-append_comm}
use Rattle.value_rules.specs.Selecting.{put_in_order, in_order, comes_first_of, stand_in_order, IsSorting}

module _ {X : Type 0} (lt : X → X → Bool) (o : IsStrictWeakOrder lt) where
  -- none of some elements comes before x
  abbrev pub Least : X → List X → Type 0
  Least x [] = Unit {0}
  Least x (y ∷ ys) = (lt y x ≡ false) × Least x ys

  abbrev pub Sorted : List X → Type 0
  Sorted [] = Unit {0}
  Sorted (x ∷ xs) = Least x xs × Sorted xs

  -- ---- the definition gives a list in order, which keeps ties

  least_choice : (y : X) (b : Bool) (xs ys : List X) → Least y xs → Least y ys → Least y (cond b xs ys)
  least_choice y true xs ys p q = p
  least_choice y false xs ys p q = q

  least_put : (y x : X) (ys : List X) → Least y ys → lt x y ≡ false → Least y (put_in_order lt x ys)
  least_put y x [] p e = (e, tt)
  least_put y x (z ∷ zs) p e = least_choice y (lt z x) (z ∷ put_in_order lt x zs) (x ∷ z ∷ zs) (p.0, least_put y x zs p.1 e) (e, p)

  least_chain : (x y : X) (ys : List X) → lt y x ≡ false → Least y ys → Least x ys
  least_chain x y [] e p = tt
  least_chain x y (z ∷ zs) e p = (o.chain z y x p.0 e, least_chain x y zs e p.1)

  put_step : (x y : X) (ys : List X) (b : Bool) → lt y x ≡ b → Sorted (y ∷ ys) → Sorted (put_in_order lt x ys) → Sorted (cond b (y ∷ put_in_order lt x ys) (x ∷ y ∷ ys))
  put_step x y ys true e p q = (least_put y x ys p.0 (o.one_way y x e), q)
  put_step x y ys false e p q = ((e, least_chain x y ys e p.0), p)

  sorted_put : (x : X) (ys : List X) → Sorted ys → Sorted (put_in_order lt x ys)
  sorted_put x [] p = (tt, tt)
  sorted_put x (y ∷ ys) p = put_step x y ys (lt y x) refl p (sorted_put x ys p.1)

  pub sorted_in_order : (xs : List X) → Sorted (in_order lt xs)
  sorted_in_order [] = tt
  sorted_in_order (x ∷ xs) = sorted_put x (in_order lt xs) (sorted_in_order xs)

  -- of two elements that tie with w, none comes before the other
  no_tie : (w x y : X) → ties lt w x ≡ true → ties lt w y ≡ true → lt y x ≡ false
  no_tie w x y e f =
      o.chain y w x (not-true (lt y w) (and_parts (not (lt w y)) (not (lt y w)) f).1) (not-true (lt w x) (and_parts (not (lt w x)) (not (lt x w)) e).0)

  kept_step : (w x y : X) (ys : List X) (b px py : Bool) → lt y x ≡ b → ties lt w x ≡ px → ties lt w y ≡ py
      → filter (ties lt w) (put_in_order lt x ys) ≡ cond px (x ∷ filter (ties lt w) ys) (filter (ties lt w) ys)
      → filter (ties lt w) (cond b (y ∷ put_in_order lt x ys) (x ∷ y ∷ ys)) ≡ filter (ties lt w) (x ∷ y ∷ ys)
  kept_step w x y ys false px py e f g h = refl
  kept_step w x y ys true true true e f g h = absurd (true≢false (sym e ∙ no_tie w x y f g))
  kept_step w x y ys true false true e f g h = rw (f, g, h) refl
  kept_step w x y ys true true false e f g h = rw (f, g, h) refl
  kept_step w x y ys true false false e f g h = rw (f, g, h) refl

  kept_put : (w x : X) (ys : List X) → filter (ties lt w) (put_in_order lt x ys) ≡ filter (ties lt w) (x ∷ ys)
  kept_put w x [] = refl
  kept_put w x (y ∷ ys) = kept_step w x y ys (lt y x) (ties lt w x) (ties lt w y) refl refl refl (kept_put w x ys)

  filter_behind : (p : X → Bool) (x : X) (xs ys : List X) → filter p xs ≡ filter p ys → filter p (x ∷ xs) ≡ filter p (x ∷ ys)
  filter_behind p x xs ys e = ap (λ (zs : List X). cond (p x) (x ∷ zs) zs) e

  pub kept_in_order : (w : X) (xs : List X) → filter (ties lt w) (in_order lt xs) ≡ filter (ties lt w) xs
  kept_in_order w [] = refl
  kept_in_order w (x ∷ xs) = kept_put w x (in_order lt xs) ∙ filter_behind (ties lt w) x (in_order lt xs) xs (kept_in_order w xs)

  -- ---- and all that there were

  swapped : (b : Bool) (x y : X) (xs ys : List X) → IsPermutation (x ∷ ys) xs → IsPermutation (x ∷ y ∷ ys) (cond b (y ∷ xs) (x ∷ y ∷ ys))
  swapped true x y xs ys p = IsPermutation-trans (x ∷ y ∷ ys) (y ∷ x ∷ ys) (y ∷ xs) (IsPermutation-append_left ys (x ∷ y ∷ []) (y ∷ x ∷ []) (IsPermutation-append_comm (x ∷ []) (y ∷ []))) (IsPermutation-cons y (x ∷ ys) xs p)
  swapped false x y xs ys p = IsPermutation-refl (x ∷ y ∷ ys)

  all_put : (x : X) (ys : List X) → IsPermutation (x ∷ ys) (put_in_order lt x ys)
  all_put x [] = IsPermutation-refl (x ∷ [])
  all_put x (y ∷ ys) = swapped (lt y x) x y (put_in_order lt x ys) ys (all_put x ys)

  all_in_order : (xs : List X) → IsPermutation xs (in_order lt xs)
  all_in_order [] = IsPermutation-refl []
  all_in_order (x ∷ xs) = IsPermutation-trans (x ∷ xs) (x ∷ in_order lt xs) (in_order lt (x ∷ xs)) (IsPermutation-cons x xs (in_order lt xs) (all_in_order xs)) (all_put x (in_order lt xs))

  -- ---- in the words of the law

  first_of : (x : X) (ys : List X) → Least x ys → comes_first_of lt x ys ≡ true
  first_of x [] p = refl
  first_of x (y ∷ ys) p = rw (p.0, first_of x ys p.1) refl

  standing : (xs : List X) → Sorted xs → stand_in_order lt xs ≡ true
  standing [] p = refl
  standing (x ∷ xs) p = rw (first_of x xs p.0, standing xs p.1) refl

  pub sorts : (xs : List X) → IsSorting lt xs (in_order lt xs)
  sorts xs = record { same = all_in_order xs; ordered = standing (in_order lt xs) (sorted_in_order xs); as_they_stood = λ w. kept_in_order w xs }
