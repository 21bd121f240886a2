-- What a rule owes: its relation, its fronts and its reading function say the same.
use Rattle.std.proofs.Common.{◌≡◌, ℕ, suc, ◌≤◌, ◌<◌, ◌⊎◌, inl, inr, Bool, true, false, List, [], ◌∷◌, ◌++◌, length, append_assoc, Ok, Err, refl, sym, ap, ◌∙◌, arith}
use Rattle.sql_grammar.specs.Sets.{member, next_in}
use Rattle.sql_grammar.specs.Reader.{Fault, Syntax, Deep, Read, left_of, bind}
use Rattle.sql_grammar.specs.Rule.{Rule}

-- What is known of a rule: the kinds that its texts begin with, whether a text may be empty, the kinds that must not
-- stand behind a text since it might go on with them, and whether there is any text.
pub record Shape : Type 0 where
  pub first : List ℕ
  pub empty : Bool
  pub after : List ℕ
  pub live : Bool

abbrev pub shape : List ℕ → Bool → List ℕ → Bool → Shape
shape first empty after live = record { first = first; empty = empty; after = after; live = live }

-- the number of tokens that are left
abbrev pub left : {T A : Type 0} → Read T A → ℕ
left (Ok x) = length x.1
left (Err e) = length (left_of e)

-- what was not refused as too deep is read in the same way where more may be opened
abbrev pub Steady : {T A : Type 0} → Read T A → Read T A → Type 0
Steady (Ok x) other = other ≡ Ok x
Steady (Err (Syntax ts)) other = other ≡ Err (Syntax ts)
Steady (Err (Deep ts)) other = Unit {0}

-- the tokens before the place are such a list
abbrev pub Stopped : {T : Type 0} → (List T → Type 0) → List T → List T → Type 0
Stopped {T} Is ts rest = (before : List T) × (ts ≡ before ++ rest) × Is before

-- there is a token at the place, and up to it the tokens are such a list
abbrev pub Over : {T : Type 0} → (List T → Type 0) → List T → List T → Type 0
Over {T} Is ts rest = (before : List T) × (x : T) × (more : List T) × (rest ≡ x ∷ more) × (ts ≡ before ++ x ∷ more) × Is (before ++ x ∷ [])

-- the tokens go on to a text, whatever stands behind it
abbrev pub Completes : {T A : Type 0} → Rule T A → List T → Type 0
Completes {T} {A} r us = (tail : List T) → (vs : List T) × (a : A) × r.texts a (us ++ (vs ++ tail)) tail

-- they go on to a text where enough may be opened
abbrev pub GoesOn : {T A : Type 0} → (ℕ → Rule T A) → List T → Type 0
GoesOn rule us = (n : ℕ) × ((e : ℕ) → n ≤ e → Completes (rule e) us)

-- what was read is a text whatever is left behind it
abbrev pub Framed : {T A : Type 0} → Rule T A → A → List T → List T → Type 0
Framed {T} r a ts rest = (front : List T) × (ts ≡ front ++ rest) × ((more : List T) → r.texts a (front ++ more) more)

-- a text begins with a token of the first set, or is empty
abbrev pub Begun : {T : Type 0} → (T → ℕ) → Shape → List T → List T → Type 0
Begun kind s ts rest = ((next_in kind s.first ts ≡ true) × (length rest < length ts)) ⊎ ((s.empty ≡ true) × (ts ≡ rest))

-- A rule for each number of constructs that may still be opened, and what it owes at one of them.
pub record Lawful {T A : Type 0} (kind : T → ℕ) (s : Shape) (rule : ℕ → Rule T A) (d : ℕ) : Type 0 where
  -- what is read is a text
  pub sound : (ts : List T) (x : A × List T) → (rule d).read ts ≡ Ok x → (rule d).texts x.0 ts x.1
  -- a text is read, where nothing stands behind it with which it might go on
  pub complete : (a : A) (ts rest : List T) → (rule d).texts a ts rest → next_in kind s.after rest ≡ false → (rule d).read ts ≡ Ok (a, rest)
  pub framed : (a : A) (ts rest : List T) → (rule d).texts a ts rest → Framed (rule d) a ts rest
  pub begins : (a : A) (ts rest : List T) → (rule d).texts a ts rest → Begun kind s ts rest
  -- what a text begins with is a front
  pub closed : (a : A) (us tail rest : List T) → (rule d).texts a (us ++ tail) rest → length rest ≤ length tail → (rule d).fronts us
  -- and so is what a front begins with
  pub shorter : (us tail : List T) → (rule d).fronts (us ++ tail) → (rule d).fronts us
  pub front_begins : (t : T) (us : List T) → (rule d).fronts (t ∷ us) → member (kind t) s.first ≡ true
  pub begun : (rule d).fronts []
  -- there is a text
  pub lives : s.live ≡ true → GoesOn rule []
  -- a front that is not empty goes on to a text
  pub goes_on : (t : T) (us : List T) → (rule d).fronts (t ∷ us) → GoesOn rule (t ∷ us)
  -- reading stops nowhere in a front
  pub keeps : (us tail : List T) → (rule d).fronts us → left ((rule d).read (us ++ tail)) ≤ length tail
  pub shrinks : (ts : List T) → left ((rule d).read ts) ≤ length ts
  -- before a fault stands a front
  pub stops : (ts : List T) (e : Fault T) → (rule d).read ts ≡ Err e → Stopped (rule d).fronts ts (left_of e)
  -- where one construct too many opens, one more would be allowed
  pub exceeds : (ts rest : List T) → (rule d).read ts ≡ Err (Deep rest) → Over (rule (suc d)).fronts ts rest
  -- what may be opened may also be more
  pub deeper : (e : ℕ) → d ≤ e → (a : A) (ts rest : List T) → (rule d).texts a ts rest → (rule e).texts a ts rest
  pub fronts_deeper : (e : ℕ) → d ≤ e → (us : List T) → (rule d).fronts us → (rule e).fronts us
  pub steady : (e : ℕ) → d ≤ e → (ts : List T) → Steady ((rule d).read ts) ((rule e).read ts)

-- every front goes on to a text
pub front_goes_on : {T A : Type 0} {kind : T → ℕ} {s : Shape} {rule : ℕ → Rule T A} {d : ℕ} → Lawful kind s rule d → s.live ≡ true → (us : List T) → (rule d).fronts us → GoesOn rule us
front_goes_on l live [] h = l.lives live
front_goes_on l live (t ∷ us) h = l.goes_on t us h

-- ---- reading on
module _ {T : Type 0} where
  pub bind_ok : {A B : Type 0} (r : Read T A) (g : A × List T → Read T B) (y : B × List T) → bind r g ≡ Ok y → (x : A × List T) × (r ≡ Ok x) × (g x ≡ Ok y)
  bind_ok (Ok x) g y e = (x, refl, e)
  bind_ok (Err h) g y e = cc

  pub bind_err : {A B : Type 0} (r : Read T A) (g : A × List T → Read T B) (h : Fault T) → bind r g ≡ Err h → (r ≡ Err h) ⊎ ((x : A × List T) × (r ≡ Ok x) × (g x ≡ Err h))
  bind_err (Ok x) g h e = inr (x, refl, e)
  bind_err (Err k) g h e = let q : k ≡ h = cc in inl (ap Err q)

  pub bind_left : {A B : Type 0} (r : Read T A) (g : A × List T → Read T B) (n : ℕ) → left r ≤ n → ((a : A) (us : List T) → left (g (a, us)) ≤ length us) → left (bind r g) ≤ n
  bind_left (Ok x) g n l h = omega (arith, h x.0 x.1)
  bind_left (Err k) g n l h = l

  pub bind_steady : {A B : Type 0} (r r' : Read T A) (g g' : A × List T → Read T B) → Steady r r' → ((x : A × List T) → Steady (g x) (g' x)) → Steady (bind r g) (bind r' g')
  bind_steady (Ok x) r' g g' h k = rw h (k x)
  bind_steady (Err (Syntax ts)) r' g g' h k = rw h refl
  bind_steady (Err (Deep ts)) r' g g' h k = tt

  abbrev pub Gave : {A : Type 0} → Read T A → A × List T → Type 0
  Gave r x = r ≡ Ok x

  abbrev pub Failed : {A : Type 0} → Read T A → Fault T → Type 0
  Failed r e = r ≡ Err e

  pub pair_is : {A : Type 0} (a : A) (us : List T) (x : A × List T) → Gave (Ok (a, us)) x → (a ≡ x.0) × (us ≡ x.1)
  pair_is {A = A} a us x e =
      let q : (a, us) ≡ x = cc in
      (ap (λ (z : A × List T). z.0) q, ap (λ (z : A × List T). z.1) q)

  pub steady_same : {A : Type 0} (r : Read T A) → Steady r r
  steady_same (Ok x) = refl
  steady_same (Err (Syntax ts)) = refl
  steady_same (Err (Deep ts)) = tt

  -- ---- places behind what was read
  pub behind_stop : (Is Is' : List T → Type 0) (front mid rest : List T) → ((us : List T) → Is us → Is' (front ++ us)) → Stopped Is mid rest → Stopped Is' (front ++ mid) rest
  behind_stop Is Is' front mid rest wrap s =
      (front ++ s.0, ap (λ us. front ++ us) s.1 ∙ sym (append_assoc front s.0 rest), wrap s.0 s.2)

  pub behind_over : (Is Is' : List T → Type 0) (front mid rest : List T) → ((us : List T) → Is us → Is' (front ++ us)) → Over Is mid rest → Over Is' (front ++ mid) rest
  behind_over Is Is' front mid rest wrap s = (
    front ++ s.0,
    s.1,
    s.2,
    s.3,
    ap (λ us. front ++ us) s.4 ∙ sym (append_assoc front s.0 (s.1 ∷ s.2)),
    rw append_assoc (wrap (s.0 ++ s.1 ∷ []) s.5),
  )

  pub over_by : (Is Is' : List T → Type 0) (ts rest : List T) → ((us : List T) → Is us → Is' us) → Over Is ts rest → Over Is' ts rest
  over_by Is Is' ts rest wrap s = (s.0, s.1, s.2, s.3, s.4, wrap (s.0 ++ s.1 ∷ []) s.5)

  pub stop_by : (Is Is' : List T → Type 0) (ts rest : List T) → ((us : List T) → Is us → Is' us) → Stopped Is ts rest → Stopped Is' ts rest
  stop_by Is Is' ts rest wrap s = (s.0, s.1, wrap s.0 s.2)
