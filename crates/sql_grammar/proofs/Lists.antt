-- Sets of kinds, and lists in two parts.
use Rattle.std.proofs.Common.{◌≡◌, ℕ, zero, suc, ◌-◌, ◌≤◌, ◌<◌, ◌⊎◌, inl, inr, Bool, true, false, not, ◌&&◌, ◌||◌, ◌==◌, cond, List, [], ◌∷◌, ◌++◌, length, take, length-append, refl, sym, ap, ◌∙◌, arith}
use Rattle.sql_grammar.specs.Sets.{member, within, apart, next_in}
use Rattle.sql_grammar.specs.Reader.{front_of}

-- ---- truth values
pub both_true : (a b : Bool) → (a && b) ≡ true → (a ≡ true) × (b ≡ true)
both_true true b e = (refl, e)
both_true false b e = cc

pub or_left : (a b : Bool) → a ≡ true → (a || b) ≡ true
or_left true b e = refl
or_left false b e = cc

pub or_right : (a b : Bool) → b ≡ true → (a || b) ≡ true
or_right true b e = refl
or_right false b e = e

pub or_true : (a b : Bool) → (a || b) ≡ true → (a ≡ true) ⊎ (b ≡ true)
or_true true b e = inl refl
or_true false b e = inr e

pub or_false : (a b : Bool) → (a || b) ≡ false → (a ≡ false) × (b ≡ false)
or_false true b e = cc
or_false false b e = (refl, e)

not_true : (b : Bool) → not b ≡ true → b ≡ false
not_true true e = cc
not_true false e = refl

-- a test that is not true is false
pub not_both : (b : Bool) → (b ≡ true → ⊥) → b ≡ false
not_both true f = absurd (f refl)
not_both false f = refl

pub le_or : (m n : ℕ) → (m ≤ n) ⊎ (n < m)
le_or zero n = inl (omega arith)
le_or (suc m) zero = inr (omega arith)
le_or (suc m) (suc n) = elim (le_or m n) [ inl l ↦ inl (omega arith) | inr l ↦ inr (omega arith) ]

-- ---- sets of kinds
pub member_append : (k : ℕ) (set other : List ℕ) → member k (set ++ other) ≡ (member k set || member k other)
member_append k [] other = refl
member_append k (n ∷ set) other = by (k == n) (member_append k set other)
  where
    by : (b : Bool) → member k (set ++ other) ≡ (member k set || member k other) → (b || member k (set ++ other)) ≡ ((b || member k set) || member k other)
    by true e = refl
    by false e = e

same_number : (k n : ℕ) → (k == n) ≡ true → k ≡ n
same_number k n e = grind arith

within_by : (k n : ℕ) (set other : List ℕ) → (k == n || member k set) ≡ true → (member n other && within set other) ≡ true → (member k set ≡ true → within set other ≡ true → member k other ≡ true) → member k other ≡ true
within_by k n set other m w more =
    let both = both_true (member n other) (within set other) w in
    elim (or_true (k == n) (member k set) m) [
      | inl e ↦ rw (same_number k n e) both.0
      | inr e ↦ more e both.1
    ]

pub within_member : (k : ℕ) (set other : List ℕ) → within set other ≡ true → member k set ≡ true → member k other ≡ true
within_member k [] other w m = cc
within_member k (n ∷ set) other w m = within_by k n set other m w (λ e f. within_member k set other f e)

apart_by : (k n : ℕ) (set other : List ℕ) → (k == n || member k set) ≡ true → (not (member n other) && apart set other) ≡ true → (member k set ≡ true → apart set other ≡ true → member k other ≡ false) → member k other ≡ false
apart_by k n set other m w more =
    let both = both_true (not (member n other)) (apart set other) w in
    elim (or_true (k == n) (member k set) m) [
      | inl e ↦ rw (same_number k n e) (not_true (member n other) both.0)
      | inr e ↦ more e both.1
    ]

pub apart_member : (k : ℕ) (set other : List ℕ) → apart set other ≡ true → member k set ≡ true → member k other ≡ false
apart_member k [] other w m = cc
apart_member k (n ∷ set) other w m = apart_by k n set other m w (λ e f. apart_member k set other f e)

pub within_not : (k : ℕ) (set other : List ℕ) → within set other ≡ true → member k other ≡ false → member k set ≡ false
within_not k set other w m = not_both (member k set) (λ e. let f = within_member k set other w e in cc)

-- a set, where something holds
abbrev pub set_if : Bool → List ℕ → List ℕ
set_if b set = cond b set []

pub apart_nothing : (set : List ℕ) → apart set [] ≡ true
apart_nothing [] = refl
apart_nothing (k ∷ set) = apart_nothing set

-- ---- what comes next
module _ {T : Type 0} (kind : T → ℕ) where
  pub next_within : (ts : List T) (set other : List ℕ) → within set other ≡ true → next_in kind set ts ≡ true → next_in kind other ts ≡ true
  next_within [] set other w e = cc
  next_within (t ∷ ts) set other w e = within_member (kind t) set other w e

  pub next_not_within : (ts : List T) (set other : List ℕ) → within set other ≡ true → next_in kind other ts ≡ false → next_in kind set ts ≡ false
  next_not_within [] set other w e = refl
  next_not_within (t ∷ ts) set other w e = within_not (kind t) set other w e

  pub next_apart : (ts : List T) (set other : List ℕ) → apart set other ≡ true → next_in kind set ts ≡ true → next_in kind other ts ≡ false
  next_apart [] set other w e = refl
  next_apart (t ∷ ts) set other w e = apart_member (kind t) set other w e

  pub next_append : (ts : List T) (set other : List ℕ) → next_in kind (set ++ other) ts ≡ (next_in kind set ts || next_in kind other ts)
  next_append [] set other = refl
  next_append (t ∷ ts) set other = member_append (kind t) set other

  pub next_left : (ts : List T) (set other : List ℕ) → next_in kind set ts ≡ true → next_in kind (set ++ other) ts ≡ true
  next_left ts set other e = next_append ts set other ∙ or_left (next_in kind set ts) (next_in kind other ts) e

  pub next_right : (ts : List T) (set other : List ℕ) → next_in kind other ts ≡ true → next_in kind (set ++ other) ts ≡ true
  next_right ts set other e = next_append ts set other ∙ or_right (next_in kind set ts) (next_in kind other ts) e

  pub next_neither : (ts : List T) (set other : List ℕ) → next_in kind (set ++ other) ts ≡ false → (next_in kind set ts ≡ false) × (next_in kind other ts ≡ false)
  next_neither ts set other e = or_false (next_in kind set ts) (next_in kind other ts) (sym (next_append ts set other) ∙ e)

  pub set_if_in : (b : Bool) (set : List ℕ) (ts : List T) → b ≡ true → next_in kind set ts ≡ true → next_in kind (set_if b set) ts ≡ true
  set_if_in true set ts e h = h
  set_if_in false set ts e h = cc

  pub set_if_not : (b : Bool) (set : List ℕ) (ts : List T) → next_in kind (set_if b set) ts ≡ false → b ≡ true → next_in kind set ts ≡ false
  set_if_not true set ts h e = h
  set_if_not false set ts h e = cc

-- ---- lists in two parts
module _ {T : Type 0} where
  pub split : (us tail front mid : List T) → us ++ tail ≡ front ++ mid → length tail ≤ length mid → (ws : List T) × (us ≡ front ++ ws) × (mid ≡ ws ++ tail)
  split us tail [] mid e l = (us, refl, sym e)
  split [] tail (y ∷ front) mid e l = absurd (omega (arith, ap length e, length-append front mid))
  split (x ∷ us) tail (y ∷ front) mid e l =
      let t : us ++ tail ≡ front ++ mid = cc in
      let r = split us tail front mid t l in
      (r.0, (let q = r.1 in cc), r.2)

  take_front : (front rest : List T) → take (length front) (front ++ rest) ≡ front
  take_front [] rest = refl
  take_front (x ∷ front) rest = ap (λ us. x ∷ us) (take_front front rest)

  pub front_is : (front rest : List T) → front_of (front ++ rest) rest ≡ front
  front_is front rest =
      let n : length (front ++ rest) - length rest ≡ length front = omega (arith, length-append front rest) in
      rw n (take_front front rest)
