-- Written values: bytes that a rule reads as a value, whatever stands behind them.
use Rattle.std.proofs.Common.{◌≡◌, ℕ, true, false, List, [], ◌∷◌, ◌++◌, Some, Option, refl, sym, subst, append_assoc, append-nil}
use Rattle.sql_grammar.specs.Grammar.{Grammar, One, Both, Pure, Chain, first, next}
use Rattle.sql_grammar.specs.Rule.{then_one}
use Rattle.sql_syntax.specs.Tokens.{Tok}
use Rattle.sql_text.proofs.Saying.{Says, soft, soft_on, space_says}

-- these bytes say this token, before what may stand behind a word
pub record Said (t : Tok) (w : List ℕ) : Type 0 where
  pub says : (bs : List ℕ) (us : List Tok) → soft bs ≡ true → Says false bs us → Says false (w ++ bs) (t ∷ us)

-- these bytes say this token, whatever stands behind them
pub record Firm (t : Tok) (w : List ℕ) : Type 0 where
  pub says : (bs : List ℕ) (us : List Tok) → Says false bs us → Says false (w ++ bs) (t ∷ us)

-- these bytes are a text of the grammar, before what may stand behind a word
pub record Reading {A : Type 0} (G : Grammar Tok A) (a : A) (w : List ℕ) : Type 0 where
  pub read : (bs : List ℕ) (us : List Tok) → soft bs ≡ true → Says false bs us → (vs : List Tok) × Says false (w ++ bs) vs × G a vs us

-- bytes that say these tokens with a text behind them that says these
abbrev pub Found : {A : Type 0} → Grammar Tok A → A → List ℕ → List Tok → Type 0
Found G a bs us = (vs : List Tok) × Says false bs vs × G a vs us

module _ {A B : Type 0} {G : Grammar Tok A} {H : Grammar Tok B} where
  pub via : {a : A} {b : B} {w : List ℕ} → ((ts rest : List Tok) → G a ts rest → H b ts rest) → Reading G a w → Reading H b w
  via f r = record { read = λ bs us o s. let k = r.read bs us o s in (k.0, k.1, f k.0 us k.2) }

module _ {A : Type 0} {G : Grammar Tok A} where
  pub written : {a : A} {w v : List ℕ} → Reading G a v → w ≡ v → Reading G a w
  written {a = a} r e = subst (λ (z : List ℕ). Reading G a z) (sym e) r

  pub valued : {a b : A} {w : List ℕ} → Reading G a w → a ≡ b → Reading G b w
  valued {w = w} r e = subst (λ (z : A). Reading G z w) e r

  pub spaced : {a : A} {w : List ℕ} → Reading G a w → Reading G a (32 ∷ w)
  spaced {w = w} r = record { read = λ bs us o s. let k = r.read bs us o s in (k.0, space_says false (w ++ bs) k.0 k.1, k.2) }

pub firm_said : {t : Tok} {w : List ℕ} → Firm t w → Said t w
firm_said r = record { says = λ bs us o s. r.says bs us s }

module _ {A : Type 0} {f : Tok → Option A} where
  pub one : {t : Tok} {a : A} {w : List ℕ} → Said t w → f t ≡ Some a → Reading (One f) a w
  one {t = t} r e = record { read = λ bs us o s. (t ∷ us, r.says bs us o s, (t, refl, e)) }

pub nothing : {A : Type 0} (a : A) → Reading (Pure {T = Tok} a) a []
nothing a = record { read = λ bs us o s. (us, s, (refl, refl)) }

-- ---- one behind the other
-- the text of the second, and the text of the first in front of it
abbrev pub Joined : {A B C : Type 0} → (A → B → C) → Grammar Tok A → Grammar Tok B → A → B → List ℕ → List ℕ → List ℕ → List Tok → Type 0
Joined f G H a b w v bs us = Found (Both f G H) (f a b) ((w ++ v) ++ bs) us

pub both_found : {A B C : Type 0} (f : A → B → C) (G : Grammar Tok A) (H : Grammar Tok B) (a : A) (b : B) (w v bs : List ℕ) (us mid : List Tok) → H b mid us → Found G a (w ++ (v ++ bs)) mid → Joined f G H a b w v bs us
both_found f G H a b w v bs us mid h j = (j.0, subst (λ (z : List ℕ). Says false z j.0) (sym (append_assoc w v bs)) j.1, (a, b, mid, refl, j.2, h))

pub then' : {A B C : Type 0} (f : A → B → C) {G : Grammar Tok A} {H : Grammar Tok B} {a : A} {b : B} {w v : List ℕ} → Reading G a w → Reading H b v → soft v ≡ true → Reading (Both f G H) (f a b) (w ++ v)
then' f {G = G} {H = H} {a = a} {b = b} {w = w} {v = v} r q o = record {
  read = λ bs us p s. let k = q.read bs us p s in both_found f G H a b w v bs us k.0 k.2 (r.read (v ++ bs) k.0 (soft_on v bs o p) k.1);
}

-- nothing behind
pub then_nothing : {A B C : Type 0} (f : A → B → C) {G : Grammar Tok A} {H : Grammar Tok B} {a : A} {b : B} {w : List ℕ} → Reading G a w → Reading H b [] → Reading (Both f G H) (f a b) w
then_nothing f {w = w} r q = written (then' f r q refl) (sym (append-nil w))

pub token_then : {A B C : Type 0} (f : A → B → C) {g : Tok → Option A} {H : Grammar Tok B} {t : Tok} {a : A} {b : B} {w v : List ℕ} → Firm t w → g t ≡ Some a → Reading H b v → Reading (Both f (One g) H) (f a b) (w ++ v)
token_then f {g = g} {H = H} {t = t} {a = a} {b = b} {w = w} {v = v} r e q = record {
  read = λ bs us p s. let k = q.read bs us p s in both_found f (One g) H a b w v bs us k.0 k.2 (t ∷ k.0, r.says (v ++ bs) k.0 k.1, (t, refl, e));
}

-- ---- steps behind a value
-- these bytes are steps of a chain from one value to another
pub record Steps {A B : Type 0} (f : A → B → A) (G : Grammar Tok A) (H : A → Grammar Tok B) (a z : A) (w : List ℕ) : Type 0 where
  pub go : (bs : List ℕ) (us : List Tok) → soft bs ≡ true → Says false bs us → (vs : List Tok) × Says false (w ++ bs) vs × ((ts : List Tok) → Chain f G H a ts vs → Chain f G H z ts us)

module _ {A B : Type 0} {f : A → B → A} {G : Grammar Tok A} {H : A → Grammar Tok B} where
  pub stay : (a : A) → Steps f G H a a []
  stay a = record { go = λ bs us o s. (us, s, λ ts c. c) }

  pub last_step : {a : A} {b : B} {w : List ℕ} → Reading (H a) b w → Steps f G H a (f a b) w
  last_step {b = b} r = record { go = λ bs us o s. let k = r.read bs us o s in (k.0, k.1, λ ts c. next b c k.2) }

  pub step : {a z : A} {b : B} {w v : List ℕ} → Reading (H a) b w → soft v ≡ true → Steps f G H (f a b) z v → Steps f G H a z (w ++ v)
  step {a = a} {z = z} {b = b} {w = w} {v = v} r o q = record {
    go = λ bs us p s.
        let k = q.go bs us p s in
        let j = r.read (v ++ bs) k.0 (soft_on v bs o p) k.1 in
        (j.0, subst (λ (y : List ℕ). Says false y j.0) (sym (append_assoc w v bs)) j.1, λ ts c. k.2 ts (next b c j.2));
  }

  pub steps_then : {a b z : A} {w v : List ℕ} → Steps f G H a b w → soft v ≡ true → Steps f G H b z v → Steps f G H a z (w ++ v)
  steps_then {w = w} {v = v} r o q = record {
    go = λ bs us p s.
        let k = q.go bs us p s in
        let j = r.go (v ++ bs) k.0 (soft_on v bs o p) k.1 in
        (j.0, subst (λ (y : List ℕ). Says false y j.0) (sym (append_assoc w v bs)) j.1, λ ts c. k.2 ts (j.2 ts c));
  }

  pub chained : {a z : A} {w v : List ℕ} → Reading G a w → soft v ≡ true → Steps f G H a z v → Reading (Chain f G H) z (w ++ v)
  chained {a = a} {w = w} {v = v} r o q = record {
    read = λ bs us p s.
        let k = q.go bs us p s in
        let j = r.read (v ++ bs) k.0 (soft_on v bs o p) k.1 in
        (j.0, subst (λ (y : List ℕ). Says false y j.0) (sym (append_assoc w v bs)) j.1, k.2 j.0 (first j.2));
  }

-- ---- lists with commas
-- more values, each behind a comma and a space
pub data More {A : Type 0} (P : Grammar Tok A) : List A → List ℕ → Type 0 where
  no_more : More P [] []
  more : {a : A} {as' : List A} {w v : List ℕ} → Reading P a w → More P as' v → More P (a ∷ as') (44 ∷ 32 ∷ (w ++ v))

pub more_soft : {A : Type 0} {P : Grammar Tok A} {as' : List A} {w : List ℕ} → More P as' w → soft w ≡ true
more_soft no_more = refl
more_soft (more r m) = refl

-- steps that follow one another directly, each of them soft to begin with
pub data Rows' {A : Type 0} (P : Grammar Tok A) : List A → List ℕ → Type 0 where
  no_row' : Rows' P [] []
  row' : {a : A} {as' : List A} {w v : List ℕ} → Reading P a w → soft v ≡ true → Rows' P as' v → Rows' P (a ∷ as') (w ++ v)

module _ {A : Type 0} {G : Grammar Tok (List A)} {P : Grammar Tok A} where
  pub row_steps : {as' : List A} {w : List ℕ} → Rows' P as' w → (acc : List A) → Steps then_one G (λ a. P) acc (acc ++ as') w
  row_steps no_row' acc = subst (λ (z : List A). Steps then_one G (λ a. P) acc z []) (sym (append-nil acc)) (stay acc)
  row_steps (row' {a = a} {as' = as'} {w = w} {v = v} r o m) acc =
      subst (λ (z : List A). Steps then_one G (λ a. P) acc z (w ++ v)) (append_assoc acc (a ∷ []) as') (step r o (row_steps m (acc ++ a ∷ [])))
