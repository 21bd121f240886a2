-- Written values that are read whatever stands behind them: those that end with a semicolon and a space.
use Rattle.std.proofs.Common.{◌≡◌, ℕ, true, false, List, [], ◌∷◌, ◌++◌, refl, sym, subst, append_assoc, append-nil}
use Rattle.sql_lex.specs.declared.keyword.Keyword.{Keyword}
use Rattle.sql_lex.specs.declared.token.Symbol.TheVariants as signs
use Rattle.sql_grammar.specs.Grammar.{Grammar, Both, Pure, Chain, first, next}
use Rattle.sql_grammar.specs.Rule.{then_one}
use Rattle.sql_syntax.specs.Tokens.{Tok, key, mark, keyword, sign}
use Rattle.sql_text.proofs.Saying.{Says, soft, space_says}
use Rattle.sql_text.proofs.Reading.{Said, Reading, both_found}
use Rattle.sql_text.proofs.Written.{kw, say_semicolon}
use Rattle.sql_text.proofs.Parts.{sign_token}

-- these bytes are a text of the grammar, before any others
pub record Sure {A : Type 0} (G : Grammar Tok A) (a : A) (w : List ℕ) : Type 0 where
  pub read : (bs : List ℕ) (us : List Tok) → Says false bs us → (vs : List Tok) × Says false (w ++ bs) vs × G a vs us

module _ {A B : Type 0} {G : Grammar Tok A} {H : Grammar Tok B} where
  pub sure_via : {a : A} {b : B} {w : List ℕ} → ((ts rest : List Tok) → G a ts rest → H b ts rest) → Sure G a w → Sure H b w
  sure_via f r = record { read = λ bs us s. let k = r.read bs us s in (k.0, k.1, f k.0 us k.2) }

module _ {A : Type 0} {G : Grammar Tok A} where
  pub sure_written : {a : A} {w v : List ℕ} → Sure G a v → w ≡ v → Sure G a w
  sure_written {a = a} r e = subst (λ (z : List ℕ). Sure G a z) (sym e) r

  pub sure_spaced : {a : A} {w : List ℕ} → Sure G a w → Sure G a (32 ∷ w)
  sure_spaced {w = w} r = record { read = λ bs us s. let k = r.read bs us s in (k.0, space_says false (w ++ bs) k.0 k.1, k.2) }

pub sure_nothing : {A : Type 0} (a : A) → Sure (Pure {T = Tok} a) a []
sure_nothing a = record { read = λ bs us s. (us, s, (refl, refl)) }

soft_front : (v bs : List ℕ) (b : ℕ) → soft (b ∷ v) ≡ true → soft ((b ∷ v) ++ bs) ≡ true
soft_front v bs b e = e

module _ {A B C : Type 0} (f : A → B → C) {G : Grammar Tok A} {H : Grammar Tok B} {a : A} {b : B} where
  pub sure_then : {w v : List ℕ} → Sure G a w → Reading H b v → Reading (Both f G H) (f a b) (w ++ v)
  sure_then {w = w} {v = v} r q = record {
    read = λ bs us o s. let k = q.read bs us o s in both_found f G H a b w v bs us k.0 k.2 (r.read (v ++ bs) k.0 k.1);
  }

  pub sure_both : {w v : List ℕ} → Sure G a w → Sure H b v → Sure (Both f G H) (f a b) (w ++ v)
  sure_both {w = w} {v = v} r q = record {
    read = λ bs us s. let k = q.read bs us s in both_found f G H a b w v bs us k.0 k.2 (r.read (v ++ bs) k.0 k.1);
  }

  -- the second begins with a byte that may stand behind a word
  pub then_sure : {w v : List ℕ} {c : ℕ} → Reading G a w → Sure H b (c ∷ v) → soft (c ∷ v) ≡ true → Sure (Both f G H) (f a b) (w ++ c ∷ v)
  then_sure {w = w} {v = v} {c = c} r q o = record {
    read = λ bs us s. let k = q.read bs us s in both_found f G H a b w (c ∷ v) bs us k.0 k.2 (r.read ((c ∷ v) ++ bs) k.0 (soft_front v bs c o) k.1);
  }

-- a word, a space and what follows
pub key_sure : {A : Type 0} {G : Grammar Tok A} {a : A} {v : List ℕ} {k : Keyword} {w : List ℕ} → Said (key k) w → Sure G a v → Sure (Both (λ u b. b) (keyword k).texts G) a (w ++ 32 ∷ v)
key_sure r q = then_sure (λ u b. b) (kw r) (sure_spaced q) refl

-- a semicolon and a space
semicolon_sure : Sure (sign signs.Semicolon).texts tt (59 ∷ 32 ∷ [])
semicolon_sure = record { read = λ bs us s. (mark signs.Semicolon ∷ us, say_semicolon.says (32 ∷ bs) us (space_says false bs us s), (mark signs.Semicolon, refl, sign_token signs.Semicolon)) }

pub ended_sure : {A : Type 0} {G : Grammar Tok A} {a : A} {w : List ℕ} → Reading G a w → Sure (Both (λ b u. b) G (sign signs.Semicolon).texts) a (w ++ 59 ∷ 32 ∷ [])
ended_sure r = then_sure (λ b u. b) r semicolon_sure refl

-- ---- values behind one another
pub data SureRows {A : Type 0} (P : Grammar Tok A) : List A → List ℕ → Type 0 where
  no_sure : SureRows P [] []
  sure_row : {a : A} {as' : List A} {w v : List ℕ} → Sure P a w → SureRows P as' v → SureRows P (a ∷ as') (w ++ v)

-- a chain goes on from one value to another
abbrev Goes : {A : Type 0} → Grammar Tok (List A) → Grammar Tok A → List A → List A → List ℕ → Type 0
Goes G P acc z w = (bs : List ℕ) (us : List Tok) → Says false bs us → (vs : List Tok) × Says false (w ++ bs) vs × ((ts : List Tok) → Chain then_one G (λ a. P) acc ts vs → Chain then_one G (λ a. P) z ts us)

row_goes : {A : Type 0} (G : Grammar Tok (List A)) (P : Grammar Tok A) (acc : List A) (a : A) (z : List A) (w v : List ℕ) → Sure P a w → Goes G P (acc ++ a ∷ []) z v → Goes G P acc z (w ++ v)
row_goes G P acc a z w v r m bs us s =
    let k = m bs us s in
    let j = r.read (v ++ bs) k.0 k.1 in
    (j.0, subst (λ (y : List ℕ). Says false y j.0) (sym (append_assoc w v bs)) j.1, λ ts c. k.2 ts (next a c j.2))

sure_steps : {A : Type 0} (G : Grammar Tok (List A)) (P : Grammar Tok A) {as' : List A} {w : List ℕ} → SureRows P as' w → (acc : List A) → Goes G P acc (acc ++ as') w
sure_steps {A = A} G P no_sure acc = subst (λ (z : List A). Goes G P acc z []) (sym (append-nil acc)) (λ bs us s. (us, s, λ ts c. c))
sure_steps {A = A} G P (sure_row {a = a} {as' = as'} {w = w} {v = v} r m) acc =
    subst (λ (z : List A). Goes G P acc z (w ++ v)) (append_assoc acc (a ∷ []) as') (row_goes G P acc a ((acc ++ a ∷ []) ++ as') w v r (sure_steps G P m (acc ++ a ∷ [])))

module _ {A : Type 0} {P : Grammar Tok A} where
  -- none or more
  pub sure_repeated : {as' : List A} {w : List ℕ} → SureRows P as' w → Sure (Chain then_one (Pure []) (λ a. P)) as' w
  sure_repeated m = record { read = λ bs us s. let k = sure_steps (Pure []) P m [] bs us s in (k.0, k.1, k.2 k.0 (first (refl, refl))) }

  -- one or more
  pub sure_chain : {G : Grammar Tok (List A)} {a : A} {as' : List A} {w v : List ℕ} → Sure G (a ∷ []) w → SureRows P as' v → Sure (Chain then_one G (λ b. P)) (a ∷ as') (w ++ v)
  sure_chain {G = G} {a = a} {w = w} {v = v} r m = record {
    read = λ bs us s.
        let k = sure_steps G P m (a ∷ []) bs us s in
        let j = r.read (v ++ bs) k.0 k.1 in
        (j.0, subst (λ (y : List ℕ). Says false y j.0) (sym (append_assoc w v bs)) j.1, k.2 j.0 (first j.2));
  }
