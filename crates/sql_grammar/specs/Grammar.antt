-- Grammars as relations: a value, the tokens from where it begins, and what is left behind it.
use Rattle.std.specs.Prelude.{◌≡◌, ◌⊎◌, List, [], ◌∷◌, ◌++◌, Option, Some}

-- a value, the tokens from where it begins, what is left
abbrev pub Grammar : Type 0 → Type 0 → Type 1
Grammar T A = A → List T → List T → Type 0

-- What a text may begin with. Only the constructs that are opened in it are counted, and not those that are still to come.
abbrev pub Fronts : Type 0 → Type 1
Fronts T = List T → Type 0

-- one token that the function takes
abbrev pub One : {T A : Type 0} → (T → Option A) → Grammar T A
One {T} f a ts rest = (t : T) × (ts ≡ t ∷ rest) × (f t ≡ Some a)

-- nothing yet, or the token
abbrev pub OneFronts : {T A : Type 0} → (T → Option A) → Fronts T
OneFronts {A = A} f ts = (ts ≡ []) ⊎ ((a : A) × One f a ts [])

-- one behind the other
abbrev pub Both : {T A B C : Type 0} → (A → B → C) → Grammar T A → Grammar T B → Grammar T C
Both {T} {A} {B} f G H c ts rest = (a : A) × (b : B) × (mid : List T) × (c ≡ f a b) × G a ts mid × H b mid rest

-- a front of the first, or all of the first and a front of the second
abbrev pub BothFronts : {T A : Type 0} → Grammar T A → Fronts T → Fronts T → Fronts T
BothFronts {T} {A} G F F' ts = F ts ⊎ ((a : A) × (mid : List T) × G a ts mid × F' mid)

-- nothing is taken, and the value stands
abbrev pub Pure : {T A : Type 0} → A → Grammar T A
Pure a b ts rest = (b ≡ a) × (ts ≡ rest)

-- the value with a function applied
abbrev pub Mapped : {T A B : Type 0} → (A → B) → Grammar T A → Grammar T B
Mapped {A = A} f G b ts rest = (a : A) × (b ≡ f a) × G a ts rest

-- the value is made of the value and the tokens that it was read from
abbrev pub WithTokens : {T A B : Type 0} → (A → List T → B) → Grammar T A → Grammar T B
WithTokens {T} {A} f G b ts rest = (a : A) × (front : List T) × (ts ≡ front ++ rest) × (b ≡ f a front) × G a ts rest

-- A first value and steps behind it, each made by the rule for the value so far: operators to the left, and lists.
pub data Chain {T A B : Type 0} (f : A → B → A) (G : Grammar T A) (H : A → Grammar T B) : A → List T → List T → Type 0 where
  first : {a : A} {ts rest : List T} → G a ts rest → Chain f G H a ts rest
  next : {a : A} {ts mid rest : List T} (b : B) → Chain f G H a ts mid → H a b mid rest → Chain f G H (f a b) ts rest

-- a front of the first value, or a chain and a front of a step
abbrev pub ChainFronts : {T A B : Type 0} → (A → B → A) → Grammar T A → (A → Grammar T B) → Fronts T → (A → Fronts T) → Fronts T
ChainFronts {T} {A} f G H F F' ts = F ts ⊎ ((a : A) × (mid : List T) × Chain f G H a ts mid × F' a mid)
