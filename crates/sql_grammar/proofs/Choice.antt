-- One rule or another, told apart by what comes next.
use Rattle.std.proofs.Common.{◌≡◌, ℕ, suc, ◌≤◌, inl, inr, Bool, true, false, cond, ◌||◌, List, [], ◌∷◌, ◌++◌, length, Ok, Err, refl, sym, ◌∙◌, arith}
use Rattle.sql_grammar.specs.Sets.{member, within, apart, next_in, next_two_in}
use Rattle.sql_grammar.specs.Reader.{Fault, left_of, Deep, Read}
use Rattle.sql_grammar.specs.Rule.{Rule, either_by, either, either_by_two}
use Rattle.sql_grammar.proofs.Lists.{set_if, set_if_not, both_true, or_true, next_within, next_apart, within_member, apart_member, next_left, next_right, next_neither}
use Rattle.sql_grammar.proofs.Lawful.{Shape, shape, left, Steady, Stopped, Over, GoesOn, Framed, Begun, Lawful, over_by, stop_by}

-- what is known of one rule or another, behind which neither these kinds may stand
abbrev pub choice_shape : Shape → Shape → List ℕ → Shape
choice_shape s s' extra = shape (s.first ++ s'.first) s'.empty (s.after ++ (s'.after ++ extra)) (s.live || s'.live)

abbrev pub either_shape : Shape → Shape → List ℕ → Shape
either_shape s s' set = choice_shape s s' (set_if s'.empty set)

module _ {T : Type 0} {kind : T → ℕ} where
  -- ---- by any test
  module _ {A : Type 0} (test : List T → Bool) (extra : List ℕ) {s s' : Shape} {P Q : ℕ → Rule T A} {d : ℕ} (lp : Lawful kind s P d) (lq : Lawful kind s' Q d) (some : s.empty ≡ false)
      (yes' : (a : A) (ts rest : List T) → (P d).texts a ts rest → next_in kind (s.after ++ (s'.after ++ extra)) rest ≡ false → test ts ≡ true)
      (no' : (a : A) (ts rest : List T) → (Q d).texts a ts rest → next_in kind (s.after ++ (s'.after ++ extra)) rest ≡ false → test ts ≡ false)
      (first : (us tail : List T) → (P d).fronts us → test (us ++ tail) ≡ false → left ((Q d).read (us ++ tail)) ≤ length tail)
      (other : (us tail : List T) → (Q d).fronts us → test (us ++ tail) ≡ true → left ((P d).read (us ++ tail)) ≤ length tail) where
    abbrev E : ℕ → Rule T A
    E e = either_by test (P e) (Q e)

    abbrev by : ℕ → Bool → List T → Read T A
    by e b ts = cond b ((P e).read ts) ((Q e).read ts)

    by_sound : (b : Bool) (ts : List T) (x : A × List T) → by d b ts ≡ Ok x → (E d).texts x.0 ts x.1
    by_sound true ts x e = inl (lp.sound ts x e)
    by_sound false ts x e = inr (lq.sound ts x e)

    choice_complete : (a : A) (ts rest : List T) → (E d).texts a ts rest → next_in kind (s.after ++ (s'.after ++ extra)) rest ≡ false → (E d).read ts ≡ Ok (a, rest)
    choice_complete a ts rest (inl g) h = rw (yes' a ts rest g h) (lp.complete a ts rest g (next_neither kind rest s.after (s'.after ++ extra) h).0)
    choice_complete a ts rest (inr g) h =
        rw (no' a ts rest g h) (lq.complete a ts rest g (next_neither kind rest s'.after extra (next_neither kind rest s.after (s'.after ++ extra) h).1).0)

    choice_framed : (a : A) (ts rest : List T) → (E d).texts a ts rest → Framed (E d) a ts rest
    choice_framed a ts rest (inl g) = let k = lp.framed a ts rest g in (k.0, k.1, λ more. inl (k.2 more))
    choice_framed a ts rest (inr g) = let k = lq.framed a ts rest g in (k.0, k.1, λ more. inr (k.2 more))

    first_begun : (ts rest : List T) → Begun kind s ts rest → Begun kind (choice_shape s s' extra) ts rest
    first_begun ts rest (inl b) = inl (next_left kind ts s.first s'.first b.0, b.1)
    first_begun ts rest (inr b) = let q : true ≡ false = sym b.0 ∙ some in cc

    other_begun : (ts rest : List T) → Begun kind s' ts rest → Begun kind (choice_shape s s' extra) ts rest
    other_begun ts rest (inl b) = inl (next_right kind ts s.first s'.first b.0, b.1)
    other_begun ts rest (inr b) = inr b

    choice_begins : (a : A) (ts rest : List T) → (E d).texts a ts rest → Begun kind (choice_shape s s' extra) ts rest
    choice_begins a ts rest (inl g) = first_begun ts rest (lp.begins a ts rest g)
    choice_begins a ts rest (inr g) = other_begun ts rest (lq.begins a ts rest g)

    choice_closed : (a : A) (us tail rest : List T) → (E d).texts a (us ++ tail) rest → length rest ≤ length tail → (E d).fronts us
    choice_closed a us tail rest (inl g) l = inl (lp.closed a us tail rest g l)
    choice_closed a us tail rest (inr g) l = inr (lq.closed a us tail rest g l)

    choice_shorter : (us tail : List T) → (E d).fronts (us ++ tail) → (E d).fronts us
    choice_shorter us tail (inl h) = inl (lp.shorter us tail h)
    choice_shorter us tail (inr h) = inr (lq.shorter us tail h)

    choice_front_begins : (t : T) (us : List T) → (E d).fronts (t ∷ us) → member (kind t) (s.first ++ s'.first) ≡ true
    choice_front_begins t us (inl h) = next_left kind (t ∷ us) s.first s'.first (lp.front_begins t us h)
    choice_front_begins t us (inr h) = next_right kind (t ∷ us) s.first s'.first (lq.front_begins t us h)

    first_goes : (us : List T) → GoesOn P us → GoesOn E us
    first_goes us k = (k.0, λ e m tail. let z = k.1 e m tail in (z.0, z.1, inl z.2))

    other_goes : (us : List T) → GoesOn Q us → GoesOn E us
    other_goes us k = (k.0, λ e m tail. let z = k.1 e m tail in (z.0, z.1, inr z.2))

    choice_lives : (s.live || s'.live) ≡ true → GoesOn E []
    choice_lives e = elim (or_true s.live s'.live e) [ inl h ↦ first_goes [] (lp.lives h) | inr h ↦ other_goes [] (lq.lives h) ]

    choice_goes_on : (t : T) (us : List T) → (E d).fronts (t ∷ us) → GoesOn E (t ∷ us)
    choice_goes_on t us (inl h) = first_goes (t ∷ us) (lp.goes_on t us h)
    choice_goes_on t us (inr h) = other_goes (t ∷ us) (lq.goes_on t us h)

    keeps_by : (b : Bool) (us tail : List T) → test (us ++ tail) ≡ b → (E d).fronts us → left (by d b (us ++ tail)) ≤ length tail
    keeps_by true us tail e (inl h) = lp.keeps us tail h
    keeps_by true us tail e (inr h) = other us tail h e
    keeps_by false us tail e (inl h) = first us tail h e
    keeps_by false us tail e (inr h) = lq.keeps us tail h

    by_shrinks : (b : Bool) (ts : List T) → left (by d b ts) ≤ length ts
    by_shrinks true ts = lp.shrinks ts
    by_shrinks false ts = lq.shrinks ts

    by_stops : (b : Bool) (ts : List T) (e : Fault T) → by d b ts ≡ Err e → Stopped (E d).fronts ts (left_of e)
    by_stops true ts e h = stop_by (P d).fronts (E d).fronts ts (left_of e) (λ us z. inl z) (lp.stops ts e h)
    by_stops false ts e h = stop_by (Q d).fronts (E d).fronts ts (left_of e) (λ us z. inr z) (lq.stops ts e h)

    by_exceeds : (b : Bool) (ts rest : List T) → by d b ts ≡ Err (Deep rest) → Over (E (suc d)).fronts ts rest
    by_exceeds true ts rest h = over_by (P (suc d)).fronts (E (suc d)).fronts ts rest (λ us z. inl z) (lp.exceeds ts rest h)
    by_exceeds false ts rest h = over_by (Q (suc d)).fronts (E (suc d)).fronts ts rest (λ us z. inr z) (lq.exceeds ts rest h)

    choice_deeper : (e : ℕ) → d ≤ e → (a : A) (ts rest : List T) → (E d).texts a ts rest → (E e).texts a ts rest
    choice_deeper e m a ts rest (inl g) = inl (lp.deeper e m a ts rest g)
    choice_deeper e m a ts rest (inr g) = inr (lq.deeper e m a ts rest g)

    choice_fronts_deeper : (e : ℕ) → d ≤ e → (us : List T) → (E d).fronts us → (E e).fronts us
    choice_fronts_deeper e m us (inl h) = inl (lp.fronts_deeper e m us h)
    choice_fronts_deeper e m us (inr h) = inr (lq.fronts_deeper e m us h)

    by_steady : (b : Bool) (e : ℕ) → d ≤ e → (ts : List T) → Steady (by d b ts) (by e b ts)
    by_steady true e m ts = lp.steady e m ts
    by_steady false e m ts = lq.steady e m ts

    pub choice_lawful : Lawful kind (choice_shape s s' extra) (λ e. either_by test (P e) (Q e)) d
    choice_lawful = record {
      sound = λ ts x e. by_sound (test ts) ts x e;
      complete = choice_complete;
      framed = choice_framed;
      begins = choice_begins;
      closed = choice_closed;
      shorter = choice_shorter;
      front_begins = choice_front_begins;
      begun = inl lp.begun;
      lives = choice_lives;
      goes_on = choice_goes_on;
      keeps = λ us tail h. keeps_by (test (us ++ tail)) us tail refl h;
      shrinks = λ ts. by_shrinks (test ts) ts;
      stops = λ ts e h. by_stops (test ts) ts e h;
      exceeds = λ ts rest h. by_exceeds (test ts) ts rest h;
      deeper = choice_deeper;
      fronts_deeper = choice_fronts_deeper;
      steady = λ e m ts. by_steady (test ts) e m ts;
    }

  -- ---- by the next token
  module _ {A : Type 0} (set : List ℕ) {s s' : Shape} {P Q : ℕ → Rule T A} {d : ℕ} (lp : Lawful kind s P d) (lq : Lawful kind s' Q d)
      (some : s.empty ≡ false) (in' : within s.first set ≡ true) (out : apart s'.first set ≡ true) where
    abbrev behind' : List ℕ
    behind' = s.after ++ (s'.after ++ set_if s'.empty set)

    first_yes : (a : A) (ts rest : List T) → (P d).texts a ts rest → next_in kind behind' rest ≡ false → next_in kind set ts ≡ true
    first_yes a ts rest g h = elim (lp.begins a ts rest g) [
      | inl b ↦ next_within kind ts s.first set in' b.0
      | inr b ↦ (let q : true ≡ false = sym b.0 ∙ some in cc)
    ]

    other_no : (a : A) (ts rest : List T) → (Q d).texts a ts rest → next_in kind behind' rest ≡ false → next_in kind set ts ≡ false
    other_no a ts rest g h = elim (lq.begins a ts rest g) [
      | inl b ↦ next_apart kind ts s'.first set out b.0
      | inr b ↦ (let n = next_neither kind rest s'.after (set_if s'.empty set) (next_neither kind rest s.after (s'.after ++ set_if s'.empty set) h).1 in
          rw b.1 (set_if_not kind s'.empty set rest n.1 b.0))
    ]

    first_keeps : (us tail : List T) → (P d).fronts us → next_in kind set (us ++ tail) ≡ false → left ((Q d).read (us ++ tail)) ≤ length tail
    first_keeps [] tail h e = lq.shrinks tail
    first_keeps (t ∷ us) tail h e = let q : true ≡ false = sym (within_member (kind t) s.first set in' (lp.front_begins t us h)) ∙ e in cc

    other_keeps : (us tail : List T) → (Q d).fronts us → next_in kind set (us ++ tail) ≡ true → left ((P d).read (us ++ tail)) ≤ length tail
    other_keeps [] tail h e = lp.shrinks tail
    other_keeps (t ∷ us) tail h e = let q : false ≡ true = sym (apart_member (kind t) s'.first set out (lq.front_begins t us h)) ∙ e in cc

    pub either_lawful : Lawful kind (either_shape s s' set) (λ e. either kind set (P e) (Q e)) d
    either_lawful = choice_lawful (next_in kind set) (set_if s'.empty set) lp lq some first_yes other_no first_keeps other_keeps

-- ---- by the next two tokens
-- no text that ends before such tokens begins with such a pair
pub record Never {T A : Type 0} (kind : T → ℕ) (set other after : List ℕ) (rule : ℕ → Rule T A) : Type 0 where
  pub holds : (e : ℕ) (a : A) (ts rest : List T) → (rule e).texts a ts rest → next_in kind after rest ≡ false → next_two_in kind set other ts ≡ false

-- each text begins with such a pair
pub record Always {T A : Type 0} (kind : T → ℕ) (set other : List ℕ) (rule : ℕ → Rule T A) : Type 0 where
  pub holds : (e : ℕ) (a : A) (ts rest : List T) → (rule e).texts a ts rest → next_two_in kind set other ts ≡ true

module _ {T : Type 0} {kind : T → ℕ} where
  module _ {A : Type 0} (set other extra : List ℕ) {s s' : Shape} {P Q : ℕ → Rule T A} {d : ℕ} (lp : Lawful kind s P d) (lq : Lawful kind s' Q d) (some : s.empty ≡ false)
      (always : Always kind set other P) (never : Never kind set other (s.after ++ (s'.after ++ extra)) Q)
      (shared : (t : T) → (P d).fronts (t ∷ []) → (Q d).fronts (t ∷ [])) (shared' : (t : T) → (Q d).fronts (t ∷ []) → member (kind t) set ≡ true → (P d).fronts (t ∷ [])) where
    pair_front : (t u : T) (us tail : List T) → (P d).fronts (t ∷ u ∷ us) → next_two_in kind set other (t ∷ u ∷ us ++ tail) ≡ true
    pair_front t u us tail h =
        let k = lp.goes_on t (u ∷ us) h in
        let z = k.1 k.0 (omega arith) [] in
        always.holds k.0 z.1 (t ∷ u ∷ us ++ (z.0 ++ [])) [] z.2

    never_front : (t u : T) (us tail : List T) → (Q d).fronts (t ∷ u ∷ us) → next_two_in kind set other (t ∷ u ∷ us ++ tail) ≡ false
    never_front t u us tail h =
        let k = lq.goes_on t (u ∷ us) h in
        let z = k.1 k.0 (omega arith) [] in
        never.holds k.0 z.1 (t ∷ u ∷ us ++ (z.0 ++ [])) [] z.2 refl

    pair_keeps : (us tail : List T) → (P d).fronts us → next_two_in kind set other (us ++ tail) ≡ false → left ((Q d).read (us ++ tail)) ≤ length tail
    pair_keeps [] tail h e = lq.shrinks tail
    pair_keeps (t ∷ []) tail h e = lq.keeps (t ∷ []) tail (shared t h)
    pair_keeps (t ∷ u ∷ us) tail h e = let q : true ≡ false = sym (pair_front t u us tail h) ∙ e in cc

    never_keeps : (us tail : List T) → (Q d).fronts us → next_two_in kind set other (us ++ tail) ≡ true → left ((P d).read (us ++ tail)) ≤ length tail
    never_keeps [] tail h e = lp.shrinks tail
    never_keeps (t ∷ []) tail h e = lp.keeps (t ∷ []) tail (shared' t h (both_true (member (kind t) set) (next_in kind other tail) e).0)
    never_keeps (t ∷ u ∷ us) tail h e = let q : false ≡ true = sym (never_front t u us tail h) ∙ e in cc

    pub either_by_two_lawful : Lawful kind (choice_shape s s' extra) (λ e. either_by_two kind set other (P e) (Q e)) d
    either_by_two_lawful =
        choice_lawful (next_two_in kind set other) extra lp lq some (λ a ts rest g h. always.holds d a ts rest g) (λ a ts rest g h. never.holds d a ts rest g h) pair_keeps never_keeps
