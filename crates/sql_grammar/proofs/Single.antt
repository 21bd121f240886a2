-- One token, nothing, and rules with another value.
use Rattle.std.proofs.Common.{◌≡◌, ℕ, ◌≤◌, inl, inr, Bool, true, false, not, ◌&&◌, ◌||◌, List, [], ◌∷◌, ◌++◌, length, length-append, append_assoc, Option, Some, None, Ok, Err, refl, sym, ap, ◌∙◌, subst, arith}
use Rattle.std.proofs.lemmas.List.{append_cancel_right}
use Rattle.sql_grammar.specs.Sets.{member, within, next_in}
use Rattle.sql_grammar.specs.Reader.{Fault, left_of, Syntax, Deep, Read, take_by, read_one, front_of, read_mapped, read_with_tokens}
use Rattle.sql_grammar.specs.Grammar.{One, OneFronts, Mapped, WithTokens}
use Rattle.sql_grammar.specs.Rule.{Rule, only_then, of_kinds, any_of, word, expect, pure, refused, only_if, mapped, with_tokens}
use Rattle.sql_grammar.proofs.Lists.{both_true, within_member, within_not, front_is}
use Rattle.sql_grammar.proofs.Lawful.{Shape, shape, left, Stopped, Over, Completes, GoesOn, Framed, Begun, Lawful, bind_ok, bind_err, bind_left, bind_steady, Failed, pair_is, steady_same}

-- The tokens that a function takes are of kinds in the set, and it takes some token.
pub record Takes {T A : Type 0} (kind : T → ℕ) (f : T → Option A) (set : List ℕ) : Type 0 where
  pub takes : (t : T) (a : A) → f t ≡ Some a → member (kind t) set ≡ true
  pub token : T
  pub value : A
  pub taken : f token ≡ Some value

-- tokens of some kinds
module _ {T A : Type 0} (kind : T → ℕ) (set : List ℕ) (value : T → Option A) where
  kinds_take : (t : T) (a : A) (b : Bool) → member (kind t) set ≡ b → only_then b (value t) ≡ Some a → member (kind t) set ≡ true
  kinds_take t a true is e = is
  kinds_take t a false is e = cc

  pub takes_kinds : (token : T) (a : A) → member (kind token) set ≡ true → value token ≡ Some a → Takes kind (of_kinds kind set value) set
  takes_kinds token a is e = record {
    takes = λ t b q. kinds_take t b (member (kind t) set) refl q;
    token = token;
    value = a;
    taken = rw is e;
  }

-- any token of a kind, of which this is one
pub takes_any : {T : Type 0} (kind : T → ℕ) (k : ℕ) (token : T) → member (kind token) (k ∷ []) ≡ true → Takes kind (any_of kind k) (k ∷ [])
takes_any kind k token is = takes_kinds kind (k ∷ []) (λ t. Some tt) token tt is refl

-- a token of the kinds is taken, where each has a value
pub kinds_taken : {T A : Type 0} (kind : T → ℕ) (set : List ℕ) (value : T → A) (t : T) → member (kind t) set ≡ true → of_kinds kind set (λ u. Some (value u)) t ≡ Some (value t)
kinds_taken kind set value t is = rw is refl

module _ {T : Type 0} where
  pub pure_closed : (us tail rest : List T) → us ++ tail ≡ rest → length rest ≤ length tail → us ≡ []
  pure_closed [] tail rest e l = refl
  pure_closed (x ∷ us) tail rest e l = absurd (omega (arith, ap length e, length-append us tail))

  pub empty_shorter : (us tail : List T) → us ++ tail ≡ [] → us ≡ []
  empty_shorter us tail e = pure_closed us tail [] e (omega arith)

  syntax_is : {A : Type 0} (ts : List T) (e : Fault T) → Failed {A = A} (Err (Syntax ts)) e → Syntax ts ≡ e
  syntax_is ts e h = cc

-- all that the first shape says is allowed by the second
abbrev pub covers : Shape → Shape → Bool
covers s s' = within s.first s'.first && (within s.after s'.after && ((not s.empty || s'.empty) && (not s'.live || s.live)))

implied : (a b : Bool) → (not a || b) ≡ true → a ≡ true → b ≡ true
implied true b e f = e
implied false b e f = cc

module _ {T : Type 0} {kind : T → ℕ} where
  -- ---- one token
  module _ {A : Type 0} {f : T → Option A} {set : List ℕ} (taken : Takes kind f set) where
    take_ok : (here' ts : List T) (o : Option A) (x : A × List T) → take_by here' ts o ≡ Ok x → (o ≡ Some x.0) × (ts ≡ x.1)
    take_ok here' ts (Some a) x e = let q = pair_is a ts x e in (ap Some q.0, q.1)
    take_ok here' ts None x e = cc

    one_sound : (ts : List T) (x : A × List T) → read_one f ts ≡ Ok x → One f x.0 ts x.1
    one_sound [] x e = cc
    one_sound (t ∷ ts) x e = let k = take_ok (t ∷ ts) ts (f t) x e in (t, ap (λ us. t ∷ us) k.1, k.0)

    one_complete : (a : A) (ts rest : List T) → One f a ts rest → read_one f ts ≡ Ok (a, rest)
    one_complete a ts rest g = rw (g.1, g.2) refl

    one_begins : (a : A) (ts rest : List T) → One f a ts rest → Begun kind (shape set false [] true) ts rest
    one_begins a ts rest g = inl (rw g.1 (taken.takes g.0 a g.2), omega (arith, ap length g.1))

    one_closed : (a : A) (us tail rest : List T) → One f a (us ++ tail) rest → length rest ≤ length tail → OneFronts f us
    one_closed a [] tail rest g l = inl refl
    one_closed a (x ∷ []) tail rest g l = let q : x ≡ g.0 = (let h = g.1 in cc) in inr (a, (x, refl, rw q g.2))
    one_closed a (x ∷ y ∷ us) tail rest g l = absurd (omega (arith, ap length g.1, length-append us tail))

    one_shorter : (us tail : List T) → OneFronts f (us ++ tail) → OneFronts f us
    one_shorter [] tail h = inl refl
    one_shorter (x ∷ us) tail (inl e) = cc
    one_shorter (x ∷ us) tail (inr g) = one_closed g.0 (x ∷ us) tail [] g.1 (omega arith)

    one_front_begins : (t : T) (us : List T) → OneFronts f (t ∷ us) → member (kind t) set ≡ true
    one_front_begins t us (inl e) = cc
    one_front_begins t us (inr g) = let q : t ≡ g.1.0 = (let h = g.1.1 in cc) in taken.takes t g.0 (rw q g.1.2)

    one_goes_on : (t : T) (us : List T) → OneFronts f (t ∷ us) → GoesOn (λ e. expect f) (t ∷ us)
    one_goes_on t us (inl e) = cc
    one_goes_on t us (inr g) = subst (λ (vs : List T). GoesOn (λ e. expect f) vs) (sym g.1.1) (0, λ n l tail. ([], g.0, (g.1.0, refl, g.1.2)))

    take_left : (here' ts : List T) (o : Option A) → length ts ≤ length here' → left (take_by here' ts o) ≤ length here'
    take_left here' ts (Some a) l = l
    take_left here' ts None l = omega arith

    one_shrinks : (ts : List T) → left (read_one f ts) ≤ length ts
    one_shrinks [] = omega arith
    one_shrinks (t ∷ ts) = take_left (t ∷ ts) ts (f t) (omega arith)

    one_keeps : (us tail : List T) → OneFronts f us → left (read_one f (us ++ tail)) ≤ length tail
    one_keeps us tail (inl e) = rw e (one_shrinks tail)
    one_keeps us tail (inr g) = rw (g.1.1, g.1.2) (omega arith)

    take_err : (here' ts : List T) (o : Option A) (e : Fault T) → take_by here' ts o ≡ Err e → Syntax here' ≡ e
    take_err here' ts (Some a) e h = cc
    take_err here' ts None e h = cc

    one_err : (ts : List T) (e : Fault T) → read_one f ts ≡ Err e → Syntax ts ≡ e
    one_err [] e h = cc
    one_err (t ∷ ts) e h = take_err (t ∷ ts) ts (f t) e h

    one_stops : (ts : List T) (e : Fault T) → read_one f ts ≡ Err e → Stopped (OneFronts f) ts (left_of e)
    one_stops ts e h = subst (λ (k : Fault T). Stopped (OneFronts f) ts (left_of k)) (one_err ts e h) ([], refl, inl refl)

    one_exceeds : (ts rest : List T) → read_one f ts ≡ Err (Deep rest) → Over (OneFronts f) ts rest
    one_exceeds ts rest h = let q : Syntax ts ≡ Deep rest = one_err ts (Deep rest) h in cc

    pub expect_lawful : (d : ℕ) → Lawful kind (shape set false [] true) (λ e. expect f) d
    expect_lawful d = record {
      sound = one_sound;
      complete = λ a ts rest g _. one_complete a ts rest g;
      framed = λ a ts rest g. (g.0 ∷ [], g.1, λ more. (g.0, refl, g.2));
      begins = one_begins;
      closed = one_closed;
      shorter = one_shorter;
      front_begins = one_front_begins;
      begun = inl refl;
      lives = λ l. (0, λ n m tail. (taken.token ∷ [], taken.value, (taken.token, refl, taken.taken)));
      goes_on = one_goes_on;
      keeps = one_keeps;
      shrinks = one_shrinks;
      stops = one_stops;
      exceeds = one_exceeds;
      deeper = λ e l a ts rest g. g;
      fronts_deeper = λ e l us h. h;
      steady = λ e l ts. steady_same (read_one f ts);
    }

  pub word_lawful : (k : ℕ) (token : T) → member (kind token) (k ∷ []) ≡ true → (d : ℕ) → Lawful kind (shape (k ∷ []) false [] true) (λ e. word kind k) d
  word_lawful k token is d = expect_lawful (takes_any kind k token is) d

  -- ---- nothing
  pub pure_lawful : {A : Type 0} (a : A) (d : ℕ) → Lawful kind (shape [] true [] true) (λ e. pure {T = T} a) d
  pure_lawful a d = record {
    sound = λ ts x e. let q = pair_is a ts x e in (sym q.0, q.1);
    complete = λ b ts rest g f. rw (g.0, g.1) refl;
    framed = λ b ts rest g. ([], g.1, λ more. (g.0, refl));
    begins = λ b ts rest g. inr (refl, g.1);
    closed = λ b us tail rest g l. pure_closed us tail rest g.1 l;
    shorter = empty_shorter;
    front_begins = λ t us e. cc;
    begun = refl;
    lives = λ l. (0, λ n m tail. ([], a, (refl, refl)));
    goes_on = λ t us e. cc;
    keeps = λ us tail e. rw e (omega arith);
    shrinks = λ ts. omega arith;
    stops = λ ts e h. cc;
    exceeds = λ ts rest h. cc;
    deeper = λ e l b ts rest g. g;
    fronts_deeper = λ e l us h. h;
    steady = λ e l ts. refl;
  }

  -- ---- no text
  pub refused_lawful : {A : Type 0} (d : ℕ) → Lawful kind (shape [] false [] false) (λ e. refused {T = T} {A = A}) d
  refused_lawful d = record {
    sound = λ ts x e. cc;
    complete = λ b ts rest g f. absurd g;
    framed = λ b ts rest g. absurd g;
    begins = λ b ts rest g. absurd g;
    closed = λ b us tail rest g l. absurd g;
    shorter = empty_shorter;
    front_begins = λ t us e. cc;
    begun = refl;
    lives = λ l. cc;
    goes_on = λ t us e. cc;
    keeps = λ us tail e. rw e (omega arith);
    shrinks = λ ts. omega arith;
    stops = λ ts e h. subst (λ (k : Fault T). Stopped (λ us. us ≡ []) ts (left_of k)) (syntax_is ts e h) ([], refl, refl);
    exceeds = λ ts rest h. (let q = syntax_is ts (Deep rest) h in cc);
    deeper = λ e l b ts rest g. g;
    fronts_deeper = λ e l us h. h;
    steady = λ e l ts. refl;
  }

  -- ---- the same rule, with less said of it
  module _ {A : Type 0} {s : Shape} {P : ℕ → Rule T A} {d : ℕ} (l : Lawful kind s P d) (s' : Shape)
      (first : (k : ℕ) → member k s.first ≡ true → member k s'.first ≡ true) (after : (k : ℕ) → member k s'.after ≡ false → member k s.after ≡ false)
      (empty : s.empty ≡ true → s'.empty ≡ true) (live : s'.live ≡ true → s.live ≡ true) where
    begins_wider : (ts rest : List T) → Begun kind s ts rest → Begun kind s' ts rest
    begins_wider [] rest (inl b) = let q = b.0 in cc
    begins_wider (t ∷ ts) rest (inl b) = inl (first (kind t) b.0, b.1)
    begins_wider ts rest (inr b) = inr (empty b.0, b.1)

    ends_wider : (rest : List T) → next_in kind s'.after rest ≡ false → next_in kind s.after rest ≡ false
    ends_wider [] e = refl
    ends_wider (t ∷ ts) e = after (kind t) e

    pub widened_by : Lawful kind s' P d
    widened_by = record {
      sound = l.sound;
      complete = λ a ts rest g f. l.complete a ts rest g (ends_wider rest f);
      framed = l.framed;
      begins = λ a ts rest g. begins_wider ts rest (l.begins a ts rest g);
      closed = l.closed;
      shorter = l.shorter;
      front_begins = λ t us h. first (kind t) (l.front_begins t us h);
      begun = l.begun;
      lives = λ e. l.lives (live e);
      goes_on = l.goes_on;
      keeps = l.keeps;
      shrinks = l.shrinks;
      stops = l.stops;
      exceeds = l.exceeds;
      deeper = l.deeper;
      fronts_deeper = l.fronts_deeper;
      steady = l.steady;
    }

  pub widened : {A : Type 0} {s : Shape} {P : ℕ → Rule T A} {d : ℕ} → Lawful kind s P d → (s' : Shape) → covers s s' ≡ true → Lawful kind s' P d
  widened {s = s} l s' c =
      let a = both_true (within s.first s'.first) (within s.after s'.after && ((not s.empty || s'.empty) && (not s'.live || s.live))) c in
      let b = both_true (within s.after s'.after) ((not s.empty || s'.empty) && (not s'.live || s.live)) a.1 in
      let e = both_true (not s.empty || s'.empty) (not s'.live || s.live) b.1 in
      widened_by l s' (λ k. within_member k s.first s'.first a.0) (λ k. within_not k s.after s'.after b.0) (implied s.empty s'.empty e.0) (implied s'.live s.live e.1)

  -- ---- a rule that is allowed or not
  pub only_if_lawful : {A : Type 0} (b : Bool) {s : Shape} {P : ℕ → Rule T A} {d : ℕ} → Lawful kind s P d → Lawful kind (shape s.first s.empty s.after false) (λ e. only_if b (P e)) d
  only_if_lawful true {s = s} l = widened_by l (shape s.first s.empty s.after false) (λ k e. e) (λ k e. e) (λ e. e) (λ e. cc)
  only_if_lawful false {s = s} {d = d} l = widened_by (refused_lawful d) (shape s.first s.empty s.after false) (λ k e. cc) (λ k e. refl) (λ e. cc) (λ e. cc)

  -- ---- the value with a function applied
  module _ {A B : Type 0} (f : A → B) {s : Shape} {P : ℕ → Rule T A} {d : ℕ} (l : Lawful kind s P d) where
    tail_of : A × List T → Read T B
    tail_of x = Ok (f x.0, x.1)

    mapped_sound : (ts : List T) (x : B × List T) → read_mapped f (P d).read ts ≡ Ok x → Mapped f (P d).texts x.0 ts x.1
    unfolding tail_of
    mapped_sound ts x e =
        let b = bind_ok ((P d).read ts) tail_of x e in
        let k = pair_is (f b.0.0) b.0.1 x b.2 in
        (b.0.0, sym k.0, subst (λ (us : List T). (P d).texts b.0.0 ts us) k.1 (l.sound ts b.0 b.1))

    mapped_err : (ts : List T) (e : Fault T) → read_mapped f (P d).read ts ≡ Err e → (P d).read ts ≡ Err e
    unfolding tail_of
    mapped_err ts e h = elim (bind_err ((P d).read ts) tail_of e h) [ inl k ↦ k | inr k ↦ (let q = k.2 in cc) ]

    pub mapped_lawful : Lawful kind s (λ e. mapped f (P e)) d
    unfolding tail_of
    mapped_lawful = record {
      sound = mapped_sound;
      complete = λ b ts rest g h. rw (l.complete g.0 ts rest g.2 h, g.1) refl;
      framed = λ b ts rest g. (let k = l.framed g.0 ts rest g.2 in (k.0, k.1, λ more. (g.0, g.1, k.2 more)));
      begins = λ b ts rest g. l.begins g.0 ts rest g.2;
      closed = λ b us tail rest g h. l.closed g.0 us tail rest g.2 h;
      shorter = l.shorter;
      front_begins = l.front_begins;
      begun = l.begun;
      lives = λ e. (let k = l.lives e in (k.0, λ n m tail. let z = k.1 n m tail in (z.0, f z.1, (z.1, refl, z.2))));
      goes_on = λ t us h. (let k = l.goes_on t us h in (k.0, λ n m tail. let z = k.1 n m tail in (z.0, f z.1, (z.1, refl, z.2))));
      keeps = λ us tail h. bind_left ((P d).read (us ++ tail)) tail_of (length tail) (l.keeps us tail h) (λ a vs. omega arith);
      shrinks = λ ts. bind_left ((P d).read ts) tail_of (length ts) (l.shrinks ts) (λ a vs. omega arith);
      stops = λ ts e h. l.stops ts e (mapped_err ts e h);
      exceeds = λ ts rest h. l.exceeds ts rest (mapped_err ts (Deep rest) h);
      deeper = λ e m b ts rest g. (g.0, g.1, l.deeper e m g.0 ts rest g.2);
      fronts_deeper = l.fronts_deeper;
      steady = λ e m ts. bind_steady ((P d).read ts) ((P e).read ts) tail_of tail_of (l.steady e m ts) (λ x. refl);
    }

  -- ---- the value made with the tokens
  module _ {A B : Type 0} (f : A → List T → B) {s : Shape} {P : ℕ → Rule T A} {d : ℕ} (l : Lawful kind s P d) where
    made : List T → A × List T → Read T B
    made ts x = Ok (f x.0 (front_of ts x.1), x.1)

    with_sound : (ts : List T) (x : B × List T) → read_with_tokens f (P d).read ts ≡ Ok x → WithTokens f (P d).texts x.0 ts x.1
    unfolding made
    with_sound ts x e =
        let b = bind_ok ((P d).read ts) (made ts) x e in
        let k = pair_is (f b.0.0 (front_of ts b.0.1)) b.0.1 x b.2 in
        let g = l.sound ts b.0 b.1 in
        let c = l.framed b.0.0 ts b.0.1 g in
        let front : front_of ts b.0.1 ≡ c.0 = ap (λ us. front_of us b.0.1) c.1 ∙ front_is c.0 b.0.1 in
        (b.0.0, c.0, c.1 ∙ ap (λ us. c.0 ++ us) k.1, sym k.0 ∙ ap (f b.0.0) front, subst (λ (us : List T). (P d).texts b.0.0 ts us) k.1 g)

    with_complete : (b : B) (ts rest : List T) → WithTokens f (P d).texts b ts rest → next_in kind s.after rest ≡ false → read_with_tokens f (P d).read ts ≡ Ok (b, rest)
    with_complete b ts rest g h =
        let front : front_of ts rest ≡ g.1 = ap (λ us. front_of us rest) g.2 ∙ front_is g.1 rest in
        rw (l.complete g.0 ts rest g.4 h, g.3, front) refl

    with_framed : (b : B) (ts rest : List T) → WithTokens f (P d).texts b ts rest → Framed (with_tokens f (P d)) b ts rest
    with_framed b ts rest g =
        let k = l.framed g.0 ts rest g.4 in
        let same : g.1 ≡ k.0 = append_cancel_right g.1 k.0 rest (sym g.2 ∙ k.1) in
        (g.1, g.2, λ more. (g.0, g.1, refl, g.3, rw same (k.2 more)))

    with_completes : (e : ℕ) (us : List T) → Completes (P e) us → Completes (with_tokens f (P e)) us
    with_completes e us k tail =
        let z = k tail in
        (z.0, f z.1 (us ++ z.0), (z.1, us ++ z.0, sym (append_assoc us z.0 tail), refl, z.2))

    with_err : (ts : List T) (e : Fault T) → read_with_tokens f (P d).read ts ≡ Err e → (P d).read ts ≡ Err e
    unfolding made
    with_err ts e h = elim (bind_err ((P d).read ts) (made ts) e h) [ inl k ↦ k | inr k ↦ (let q = k.2 in cc) ]

    pub with_tokens_lawful : Lawful kind s (λ e. with_tokens f (P e)) d
    unfolding made
    with_tokens_lawful = record {
      sound = with_sound;
      complete = with_complete;
      framed = with_framed;
      begins = λ b ts rest g. l.begins g.0 ts rest g.4;
      closed = λ b us tail rest g h. l.closed g.0 us tail rest g.4 h;
      shorter = l.shorter;
      front_begins = l.front_begins;
      begun = l.begun;
      lives = λ e. (let k = l.lives e in (k.0, λ n m. with_completes n [] (k.1 n m)));
      goes_on = λ t us h. (let k = l.goes_on t us h in (k.0, λ n m. with_completes n (t ∷ us) (k.1 n m)));
      keeps = λ us tail h. bind_left ((P d).read (us ++ tail)) (made (us ++ tail)) (length tail) (l.keeps us tail h) (λ a vs. omega arith);
      shrinks = λ ts. bind_left ((P d).read ts) (made ts) (length ts) (l.shrinks ts) (λ a vs. omega arith);
      stops = λ ts e h. l.stops ts e (with_err ts e h);
      exceeds = λ ts rest h. l.exceeds ts rest (with_err ts (Deep rest) h);
      deeper = λ e m b ts rest g. (g.0, g.1, g.2, g.3, l.deeper e m g.0 ts rest g.4);
      fronts_deeper = l.fronts_deeper;
      steady = λ e m ts. bind_steady ((P d).read ts) ((P e).read ts) (made ts) (made ts) (l.steady e m ts) (λ x. refl);
    }
