-- What holds of some item of a list, item by item.
use Rattle.std.proofs.Common.{◌≡◌, ℕ, zero, suc, Bool, true, false, ◌&&◌, ◌||◌, List, [], ◌∷◌, filter, flat_map, map, slice_get, Some, None, refl, ap, ◌∙◌, cond}
use Rattle.std.specs.List.{list_any}
use Rattle.std.proofs.lemmas.List.Folds.{list_any-append}

-- an item of which it holds
pub any_is : {A : Type 0} (p : A → Bool) (xs : List A) (i : ℕ) (x : A) → slice_get xs i ≡ Some x → p x ≡ true → list_any p xs ≡ true
any_is p [] i x at holds = cc
any_is p (a ∷ xs) zero x at holds =
    let same : Some a ≡ Some x = at in
    let e : p a ≡ true = cc in
    rw e refl
any_is p (a ∷ xs) (suc i) x at holds = or_right (p a) _ (any_is p xs i x at holds) where
  or_right : (s t : Bool) → t ≡ true → (s || t) ≡ true
  or_right true t e = refl
  or_right false t e = e

any_by : {A C : Type 0} (p : A → Bool) (t : Bool) (a : A) (xs : List A) → p a ≡ t → (t || list_any p xs) ≡ true → ((i : ℕ) (x : A) → slice_get (a ∷ xs) i ≡ Some x → p x ≡ true → C) → (list_any p xs ≡ true → C) → C
any_by p true a xs is e found next = found zero a refl is
any_by p false a xs is e found next = next e

-- if it holds of some item, it is one of them
pub any_from : {A C : Type 0} (p : A → Bool) (xs : List A) → list_any p xs ≡ true → ((i : ℕ) (x : A) → slice_get xs i ≡ Some x → p x ≡ true → C) → C
any_from p [] e found = cc
any_from p (a ∷ xs) e found = any_by p (p a) a xs refl e found (λ rest. any_from p xs rest (λ i x at holds. found (suc i) x at holds))

pub any_same : {A : Type 0} (p q : A → Bool) (xs : List A) → ((x : A) → p x ≡ q x) → list_any p xs ≡ list_any q xs
any_same p q [] e = refl
any_same p q (a ∷ xs) e = or_same (p a) (q a) _ _ (e a) (any_same p q xs e) where
  or_same : (s t u v : Bool) → s ≡ t → u ≡ v → (s || u) ≡ (t || v)
  or_same s t u v f g = cc

pub none_of : {A : Type 0} (xs : List A) → list_any (λ (x : A). false) xs ≡ false
none_of [] = refl
none_of (a ∷ xs) = none_of xs

pub none_kept : {A : Type 0} (xs : List A) → filter (λ (x : A). false) xs ≡ []
none_kept [] = refl
none_kept (a ∷ xs) = none_kept xs

kept_by : {A : Type 0} (p q : A → Bool) (t : Bool) (a : A) (xs : List A) → list_any q (filter p xs) ≡ list_any (λ x. p x && q x) xs
    → list_any q (cond t (a ∷ filter p xs) (filter p xs)) ≡ ((t && q a) || list_any (λ x. p x && q x) xs)
kept_by p q true a xs e = ap (λ b. q a || b) e
kept_by p q false a xs e = e

-- something holds of an item that is kept
pub any_kept : {A : Type 0} (p q : A → Bool) (xs : List A) → list_any q (filter p xs) ≡ list_any (λ x. p x && q x) xs
any_kept p q [] = refl
any_kept p q (a ∷ xs) = kept_by p q (p a) a xs (any_kept p q xs)

-- something holds of an item that is made of one
pub any_made : {A B : Type 0} (f : A → List B) (t : B → Bool) (xs : List A) → list_any t (flat_map f xs) ≡ list_any (λ x. list_any t (f x)) xs
any_made f t [] = refl
any_made f t (a ∷ xs) = list_any-append t (f a) (flat_map f xs) ∙ ap (λ b. list_any t (f a) || b) (any_made f t xs)

-- an item that something is made of
pub made_at : {A B : Type 0} (f : A → B) (xs : List A) (i : ℕ) (x : A) (y : B) → slice_get (map f xs) i ≡ Some y → slice_get xs i ≡ Some x → y ≡ f x
made_at f [] i x y e g = cc
made_at f (a ∷ xs) zero x y e g =
    let of_y : Some (f a) ≡ Some y = e in
    let of_x : Some a ≡ Some x = g in
    cc
made_at f (a ∷ xs) (suc i) x y e g = made_at f xs i x y e g

pub made_none : {A B : Type 0} (f : A → B) (xs : List A) (i : ℕ) (y : B) → slice_get (map f xs) i ≡ Some y → slice_get xs i ≡ None → ⊥
made_none f [] i y e g = cc
made_none f (a ∷ xs) zero y e g = cc
made_none f (a ∷ xs) (suc i) y e g = made_none f xs i y e g
