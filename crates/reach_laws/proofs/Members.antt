-- What is among some items, and what holds of all of them.
use Rattle.std.proofs.Common.{◌≡◌, ◌⊎◌, inl, inr, Bool, true, false, ◌||◌, List, [], ◌∷◌, ◌++◌, cond, filter, flat_map, refl, sym, ap, ◌∙◌, subst}
use Rattle.std.specs.List.{AllByRecursion, list_any}
use Rattle.sql_reach.specs.catalog_rules.Nodes.{Node}
use Rattle.reach_laws.specs.Members.{In}

pub in_front : {A : Type 0} (a : A) (xs ys : List A) → In a xs → In a (xs ++ ys)
in_front a [] ys h = absurd h
in_front a (x ∷ xs) ys (inl e) = inl e
in_front a (x ∷ xs) ys (inr h) = inr (in_front a xs ys h)

pub in_back : {A : Type 0} (a : A) (xs ys : List A) → In a ys → In a (xs ++ ys)
in_back a [] ys h = h
in_back a (x ∷ xs) ys h = inr (in_back a xs ys h)

pub in_either : {A : Type 0} (a : A) (xs ys : List A) → In a (xs ++ ys) → In a xs ⊎ In a ys
in_either a [] ys h = inr h
in_either a (x ∷ xs) ys (inl e) = inl (inl e)
in_either a (x ∷ xs) ys (inr h) = by (in_either a xs ys h)
  where
    by : In a xs ⊎ In a ys → ((x ≡ a) ⊎ In a xs) ⊎ In a ys
    by (inl q) = inl (inr q)
    by (inr q) = inr q

pub in_made : {A B : Type 0} (f : A → List B) (a : A) (b : B) (xs : List A) → In a xs → In b (f a) → In b (flat_map f xs)
in_made f a b [] h g = absurd h
in_made f a b (x ∷ xs) (inl e) g = in_front b (f x) (flat_map f xs) (subst (λ y. In b (f y)) (sym e) g)
in_made f a b (x ∷ xs) (inr h) g = in_back b (f x) (flat_map f xs) (in_made f a b xs h g)

-- what is made of some is made of one of more
pub more_made : {A B : Type 0} (f : A → List B) (b : B) (xs ys : List A) → ((a : A) → In a xs → In a ys) → In b (flat_map f xs) → In b (flat_map f ys)
more_made f b [] ys more h = absurd h
more_made f b (x ∷ xs) ys more h = by (in_either b (f x) (flat_map f xs) h) (more_made f b xs ys (λ a i. more a (inr i)))
  where
    by : In b (f x) ⊎ In b (flat_map f xs) → (In b (flat_map f xs) → In b (flat_map f ys)) → In b (flat_map f ys)
    by (inl g) later = in_made f x b ys (more x (inl refl)) g
    by (inr g) later = later g

pub in_kept : {A : Type 0} (test : A → Bool) (a : A) (xs : List A) → In a xs → test a ≡ true → In a (filter test xs)
in_kept test a [] h t = absurd h
in_kept test a (x ∷ xs) (inl e) t = first (test x) (ap test e ∙ t)
  where
    first : (b : Bool) → b ≡ true → In a (cond b (x ∷ filter test xs) (filter test xs))
    first true q = inl e
    first false q = cc
in_kept test a (x ∷ xs) (inr h) t = later (test x) (in_kept test a xs h t)
  where
    later : (b : Bool) → In a (filter test xs) → In a (cond b (x ∷ filter test xs) (filter test xs))
    later true q = inr q
    later false q = q

-- an item that is kept is one of them, and passes the test
pub kept_in : {A : Type 0} (test : A → Bool) (a : A) (xs : List A) → In a (filter test xs) → In a xs × (test a ≡ true)
kept_in test a [] h = absurd h
kept_in test a (x ∷ xs) h = by (test x) refl h (kept_in test a xs)
  where
    by : (b : Bool) → test x ≡ b → In a (cond b (x ∷ filter test xs) (filter test xs)) → (In a (filter test xs) → In a xs × (test a ≡ true)) → In a (x ∷ xs) × (test a ≡ true)
    by true e (inl q) later = (inl q, ap test (sym q) ∙ e)
    by true e (inr q) later = let p = later q in (inr p.0, p.1)
    by false e q later = let p = later q in (inr p.0, p.1)

or_second : (s t : Bool) → t ≡ true → (s || t) ≡ true
or_second true t e = refl
or_second false t e = e

pub any_in : {A : Type 0} (p : A → Bool) (a : A) (xs : List A) → In a xs → p a ≡ true → list_any p xs ≡ true
any_in p a [] h t = absurd h
any_in p a (x ∷ xs) (inl e) t = let here : p x ≡ true = ap p e ∙ t in rw here refl
any_in p a (x ∷ xs) (inr h) t = or_second (p x) (list_any p xs) (any_in p a xs h t)

-- where it holds of one of some, it does of one of more
pub more_any : {A : Type 0} (p : A → Bool) (xs ys : List A) → ((a : A) → In a xs → In a ys) → list_any p xs ≡ true → list_any p ys ≡ true
more_any p [] ys more e = cc
more_any p (x ∷ xs) ys more e = by (p x) refl e (more_any p xs ys (λ a i. more a (inr i)))
  where
    by : (b : Bool) → p x ≡ b → (b || list_any p xs) ≡ true → (list_any p xs ≡ true → list_any p ys ≡ true) → list_any p ys ≡ true
    by true q r later = any_in p x ys (more x (inl refl)) q
    by false q r later = later r

pub clash : (b : Bool) → b ≡ false → b ≡ true → ⊥
clash b q r = cc

-- where it holds of none, it does not of an item
pub none_in : {A : Type 0} (p : A → Bool) (a : A) (xs : List A) → list_any p xs ≡ false → In a xs → p a ≡ false
none_in p a xs none h = by (p a) refl
  where
    by : (b : Bool) → p a ≡ b → b ≡ false
    by true e = absurd (clash (list_any p xs) none (any_in p a xs h e))
    by false e = refl

pub all_in : {A : Type 0} (P : A → Type 0) (xs : List A) → ((a : A) → In a xs → P a) → AllByRecursion P xs
all_in P [] h = tt
all_in P (x ∷ xs) h = (h x (inl refl), all_in P xs (λ a i. h a (inr i)))

-- ---- what holds of nodes

-- what holds of nodes behind nodes
pub both : (P : Node → Type 0) (xs ys : List Node) → AllByRecursion P (xs ++ ys) → AllByRecursion P xs × AllByRecursion P ys
both P [] ys h = (tt, h)
both P (x ∷ xs) ys h = let p = both P xs ys h.1 in ((h.0, p.0), p.1)

-- what holds of the nodes of all items
pub of_each : {A : Type 0} (P : Node → Type 0) (nodes : A → List Node) (xs : List A) → AllByRecursion P (flat_map nodes xs) → AllByRecursion (λ (x : A). AllByRecursion P (nodes x)) xs
of_each P nodes [] h = tt
of_each P nodes (x ∷ xs) h = let p = both P (nodes x) (flat_map nodes xs) h in (p.0, of_each P nodes xs p.1)
