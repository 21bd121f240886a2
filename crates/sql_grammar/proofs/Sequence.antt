-- One rule behind another, and constructs that a token opens.
use Rattle.std.proofs.Common.{◌≡◌, ℕ, zero, suc, pred, ◌+◌, ◌≤◌, inl, inr, Bool, true, false, ◌&&◌, List, [], ◌∷◌, ◌++◌, length, append-nil, append_assoc, Option, Some, None, Ok, Err, refl, sym, ap, ◌∙◌, subst, arith}
use Rattle.sql_grammar.specs.Sets.{member, apart, next_in}
use Rattle.sql_grammar.specs.Reader.{Fault, left_of, Syntax, Deep, Read, bind, take_by, refuse_by, refuse_one}
use Rattle.sql_grammar.specs.Rule.{Rule, expect, both, opened}
use Rattle.sql_grammar.proofs.Lists.{set_if, set_if_in, set_if_not, apart_nothing, le_or, split, next_apart, apart_member, next_left, next_right, next_neither}
use Rattle.sql_grammar.proofs.Lawful.{Shape, shape, left, Steady, Stopped, Over, Completes, GoesOn, Framed, Begun, Lawful, front_goes_on, bind_ok, bind_err, bind_left, bind_steady, pair_is, steady_same, behind_stop, behind_over, over_by, stop_by}
use Rattle.sql_grammar.proofs.Levels.{next_lawful}
use Rattle.sql_grammar.proofs.Single.{Takes, expect_lawful, widened_by, empty_shorter}

-- what is known of one rule behind another
abbrev pub both_shape : Shape → Shape → Shape
both_shape s s' = shape (s.first ++ set_if s.empty s'.first) (s.empty && s'.empty) (s'.after ++ set_if s'.empty s.after) s.live

module _ {T : Type 0} {kind : T → ℕ} where
  module _ {A B C : Type 0} (f : A → B → C) {s s' : Shape} {P : ℕ → Rule T A} {Q : ℕ → Rule T B} {d : ℕ} (lp : Lawful kind s P d) (lq : Lawful kind s' Q d)
      (fits : apart s'.first s.after ≡ true) (some : s'.live ≡ true) where
    second : ℕ → A × List T → Read T C
    second e x = bind ((Q e).read x.1) (λ y. Ok (f x.0 y.0, y.1))

    abbrev B' : ℕ → Rule T C
    B' e = both f (P e) (Q e)

    both_sound : (ts : List T) (x : C × List T) → (B' d).read ts ≡ Ok x → (B' d).texts x.0 ts x.1
    unfolding second
    both_sound ts x e =
        let b = bind_ok ((P d).read ts) (second d) x e in
        let c = bind_ok ((Q d).read b.0.1) (λ y. Ok (f b.0.0 y.0, y.1)) x b.2 in
        let k = pair_is (f b.0.0 c.0.0) c.0.1 x c.2 in
        (b.0.0, c.0.0, b.0.1, sym k.0, lp.sound ts b.0 b.1, subst (λ (us : List T). (Q d).texts c.0.0 b.0.1 us) k.1 (lq.sound b.0.1 c.0 c.1))

    -- what stands behind the first may stand there
    follows : (b : B) (mid rest : List T) → (Q d).texts b mid rest → next_in kind (s'.after ++ set_if s'.empty s.after) rest ≡ false → next_in kind s.after mid ≡ false
    follows b mid rest g h = elim (lq.begins b mid rest g) [
      | inl k ↦ next_apart kind mid s'.first s.after fits k.0
      | inr k ↦ rw k.1 (set_if_not kind s'.empty s.after rest (next_neither kind rest s'.after (set_if s'.empty s.after) h).1 k.0)
    ]

    both_complete : (c : C) (ts rest : List T) → (B' d).texts c ts rest → next_in kind (s'.after ++ set_if s'.empty s.after) rest ≡ false → (B' d).read ts ≡ Ok (c, rest)
    both_complete c ts rest g h =
        rw (
          lp.complete g.0 ts g.2 g.4 (follows g.1 g.2 rest g.5 h),
          lq.complete g.1 g.2 rest g.5 (next_neither kind rest s'.after (set_if s'.empty s.after) h).0,
          g.3,
        ) refl

    both_framed : (c : C) (ts rest : List T) → (B' d).texts c ts rest → Framed (B' d) c ts rest
    both_framed c ts rest g =
        let k = lp.framed g.0 ts g.2 g.4 in
        let l = lq.framed g.1 g.2 rest g.5 in (
          k.0 ++ l.0,
          k.1 ∙ (ap (λ us. k.0 ++ us) l.1 ∙ sym (append_assoc k.0 l.0 rest)),
          λ more. rw append_assoc (g.0, g.1, l.0 ++ more, g.3, k.2 (l.0 ++ more), l.2 more),
        )

    begins_by : (ts mid rest : List T) → Begun kind s ts mid → Begun kind s' mid rest → Begun kind (both_shape s s') ts rest
    begins_by ts mid rest (inl a) (inl b) = inl (next_left kind ts s.first (set_if s.empty s'.first) a.0, omega (arith, a.1, b.1))
    begins_by ts mid rest (inl a) (inr b) = inl (next_left kind ts s.first (set_if s.empty s'.first) a.0, omega (arith, a.1, ap length b.1))
    begins_by ts mid rest (inr a) (inl b) =
        let e : next_in kind s'.first ts ≡ true = rw a.1 b.0 in
        inl (next_right kind ts s.first (set_if s.empty s'.first) (set_if_in kind s.empty s'.first ts a.0 e), omega (arith, ap length a.1, b.1))
    begins_by ts mid rest (inr a) (inr b) = inr (rw (a.0, b.0) refl, a.1 ∙ b.1)

    closed_second : (a : A) (b : B) (us ws front mid tail rest : List T) → us ≡ front ++ ws → mid ≡ ws ++ tail → ((more : List T) → (P d).texts a (front ++ more) more) → (Q d).texts b mid rest
        → length rest ≤ length tail → (B' d).fronts us
    closed_second a b us ws front mid tail rest e q k g l = inr (a, ws, rw e (k ws), lq.closed b ws tail rest (rw q at g) l)

    both_closed : (c : C) (us tail rest : List T) → (B' d).texts c (us ++ tail) rest → length rest ≤ length tail → (B' d).fronts us
    both_closed c us tail rest g l = elim (le_or (length g.2) (length tail)) [
      | inl m ↦ inl (lp.closed g.0 us tail g.2 g.4 m)
      | inr m ↦ (let k = lp.framed g.0 (us ++ tail) g.2 g.4 in
          let w = split us tail k.0 g.2 k.1 (omega arith) in
          closed_second g.0 g.1 us w.0 k.0 g.2 tail rest w.1 w.2 k.2 g.5 l)
    ]

    shorter_second : (a : A) (us ws front mid tail : List T) → us ≡ front ++ ws → mid ≡ ws ++ tail → ((more : List T) → (P d).texts a (front ++ more) more) → (Q d).fronts mid → (B' d).fronts us
    shorter_second a us ws front mid tail e q k h = inr (a, ws, rw e (k ws), lq.shorter ws tail (rw q at h))

    shorter_by : (us tail mid : List T) (a : A) → (P d).texts a (us ++ tail) mid → (Q d).fronts mid → (B' d).fronts us
    shorter_by us tail mid a g h = elim (le_or (length mid) (length tail)) [
      | inl m ↦ inl (lp.closed a us tail mid g m)
      | inr m ↦ (let k = lp.framed a (us ++ tail) mid g in
          let w = split us tail k.0 mid k.1 (omega arith) in
          shorter_second a us w.0 k.0 mid tail w.1 w.2 k.2 h)
    ]

    both_shorter : (us tail : List T) → (B' d).fronts (us ++ tail) → (B' d).fronts us
    both_shorter us tail (inl h) = inl (lp.shorter us tail h)
    both_shorter us tail (inr h) = shorter_by us tail h.1 h.0 h.2 h.3

    both_front_begins : (t : T) (us : List T) → (B' d).fronts (t ∷ us) → member (kind t) (s.first ++ set_if s.empty s'.first) ≡ true
    both_front_begins t us (inl h) = next_left kind (t ∷ us) s.first (set_if s.empty s'.first) (lp.front_begins t us h)
    both_front_begins t us (inr h) = elim (lp.begins h.0 (t ∷ us) h.1 h.2) [
      | inl k ↦ next_left kind (t ∷ us) s.first (set_if s.empty s'.first) k.0
      | inr k ↦ next_right kind (t ∷ us) s.first (set_if s.empty s'.first) (set_if_in kind s.empty s'.first (t ∷ us) k.0 (lq.front_begins t us (rw k.1 h.3)))
    ]

    -- a front of the first, and any text of the second
    first_goes_on : (us : List T) → GoesOn P us → GoesOn B' us
    first_goes_on us k =
        let l = lq.lives some in (
          k.0 + l.0,
          λ e m tail.
              let z = l.1 e (omega arith) tail in
              let y = k.1 e (omega arith) (z.0 ++ tail) in
              (y.0 ++ z.0, f y.1 z.1, rw append_assoc (y.1, z.1, z.0 ++ tail, refl, y.2, z.2)),
        )

    second_goes_on : (us mid : List T) (a : A) → (P d).texts a us mid → GoesOn Q mid → GoesOn B' us
    second_goes_on us mid a g k =
        let l = lp.framed a us mid g in (
          d + k.0,
          λ e m tail.
              let z = k.1 e (omega arith) tail in
              let whole = lp.deeper e (omega arith) a (l.0 ++ (mid ++ (z.0 ++ tail))) (mid ++ (z.0 ++ tail)) (l.2 (mid ++ (z.0 ++ tail))) in
              (z.0, f a z.1, rw (l.1, append_assoc) (a, z.1, mid ++ (z.0 ++ tail), refl, whole, z.2)),
        )

    both_goes_on : (t : T) (us : List T) → (B' d).fronts (t ∷ us) → GoesOn B' (t ∷ us)
    both_goes_on t us (inl h) = first_goes_on (t ∷ us) (lp.goes_on t us h)
    both_goes_on t us (inr h) = second_goes_on (t ∷ us) h.1 h.0 h.2 (front_goes_on lq some h.1 h.3)

    second_left : (a : A) (us : List T) → left (second d (a, us)) ≤ length us
    unfolding second
    second_left a us = bind_left ((Q d).read us) (λ y. Ok (f a y.0, y.1)) (length us) (lq.shrinks us) (λ b vs. omega arith)

    keeps_first : (us tail : List T) → (P d).fronts us → left ((B' d).read (us ++ tail)) ≤ length tail
    unfolding second
    keeps_first us tail h = bind_left ((P d).read (us ++ tail)) (second d) (length tail) (lp.keeps us tail h) second_left

    keeps_second : (us mid tail : List T) (a : A) → (P d).texts a us mid → (Q d).fronts mid → left ((B' d).read (us ++ tail)) ≤ length tail
    unfolding second
    keeps_second us [] tail a g h =
        keeps_first us tail (lp.closed a us [] [] (rw append-nil g) (omega arith))
    keeps_second us (y ∷ mid) tail a g h =
        let k = lp.framed a us (y ∷ mid) g in
        let ends = apart_member (kind y) s'.first s.after fits (lq.front_begins y mid h) in
        let e : (P d).read (us ++ tail) ≡ Ok (a, y ∷ mid ++ tail) = rw (k.1, append_assoc) (lp.complete a (k.0 ++ (y ∷ mid ++ tail)) (y ∷ mid ++ tail) (k.2 (y ∷ mid ++ tail)) ends) in
        rw e (bind_left ((Q d).read (y ∷ mid ++ tail)) (λ z. Ok (f a z.0, z.1)) (length tail) (lq.keeps (y ∷ mid) tail h) (λ b vs. omega arith))

    both_keeps : (us tail : List T) → (B' d).fronts us → left ((B' d).read (us ++ tail)) ≤ length tail
    both_keeps us tail (inl h) = keeps_first us tail h
    both_keeps us tail (inr h) = keeps_second us h.1 tail h.0 h.2 h.3

    -- behind what the first read
    front_behind : (e : ℕ) (front mid : List T) (a : A) → ((more : List T) → (P e).texts a (front ++ more) more) → (us : List T) → (Q e).fronts us → (B' e).fronts (front ++ us)
    front_behind e front mid a g us h = inr (a, us, g us, h)

    both_stops : (ts : List T) (e : Fault T) → (B' d).read ts ≡ Err e → Stopped (B' d).fronts ts (left_of e)
    unfolding second
    both_stops ts e h = elim (bind_err ((P d).read ts) (second d) e h) [
      | inl k ↦ stop_by (P d).fronts (B' d).fronts ts (left_of e) (λ us z. inl z) (lp.stops ts e k)
      | inr k ↦ (let l = lp.framed k.0.0 ts k.0.1 (lp.sound ts k.0 k.1) in
          elim (bind_err ((Q d).read k.0.1) (λ y. Ok (f k.0.0 y.0, y.1)) e k.2) [
            | inl q ↦ rw l.1 (behind_stop (Q d).fronts (B' d).fronts l.0 k.0.1 (left_of e) (front_behind d l.0 k.0.1 k.0.0 l.2) (lq.stops k.0.1 e q))
            | inr q ↦ (let z = q.2 in cc)
          ])
    ]

    both_exceeds : (ts rest : List T) → (B' d).read ts ≡ Err (Deep rest) → Over (B' (suc d)).fronts ts rest
    unfolding second
    both_exceeds ts rest h = elim (bind_err ((P d).read ts) (second d) (Deep rest) h) [
      | inl k ↦ over_by (P (suc d)).fronts (B' (suc d)).fronts ts rest (λ us z. inl z) (lp.exceeds ts rest k)
      | inr k ↦ (let l = lp.framed k.0.0 ts k.0.1 (lp.sound ts k.0 k.1) in
          elim (bind_err ((Q d).read k.0.1) (λ y. Ok (f k.0.0 y.0, y.1)) (Deep rest) k.2) [
            | inl q ↦ rw l.1 (behind_over (Q (suc d)).fronts (B' (suc d)).fronts l.0 k.0.1 rest
                (front_behind (suc d) l.0 k.0.1 k.0.0 (λ more. lp.deeper (suc d) (omega arith) k.0.0 (l.0 ++ more) more (l.2 more))) (lq.exceeds k.0.1 rest q))
            | inr q ↦ (let z = q.2 in cc)
          ])
    ]

    both_fronts_deeper : (e : ℕ) → d ≤ e → (us : List T) → (B' d).fronts us → (B' e).fronts us
    both_fronts_deeper e m us (inl h) = inl (lp.fronts_deeper e m us h)
    both_fronts_deeper e m us (inr h) = inr (h.0, h.1, lp.deeper e m h.0 us h.1 h.2, lq.fronts_deeper e m h.1 h.3)

    both_steady : (e : ℕ) → d ≤ e → (ts : List T) → Steady ((B' d).read ts) ((B' e).read ts)
    unfolding second
    both_steady e m ts = bind_steady ((P d).read ts) ((P e).read ts) (second d) (second e) (lp.steady e m ts) (λ x.
        bind_steady ((Q d).read x.1) ((Q e).read x.1) (λ y. Ok (f x.0 y.0, y.1)) (λ y. Ok (f x.0 y.0, y.1)) (lq.steady e m x.1) (λ y. refl))

    pub both_lawful : Lawful kind (both_shape s s') (λ e. both f (P e) (Q e)) d
    unfolding second
    both_lawful = record {
      sound = both_sound;
      complete = both_complete;
      framed = both_framed;
      begins = λ c ts rest g. begins_by ts g.2 rest (lp.begins g.0 ts g.2 g.4) (lq.begins g.1 g.2 rest g.5);
      closed = both_closed;
      shorter = both_shorter;
      front_begins = both_front_begins;
      begun = inl lp.begun;
      lives = λ e. first_goes_on [] (lp.lives e);
      goes_on = both_goes_on;
      keeps = both_keeps;
      shrinks = λ ts. bind_left ((P d).read ts) (second d) (length ts) (lp.shrinks ts) second_left;
      stops = both_stops;
      exceeds = both_exceeds;
      deeper = λ e m c ts rest g. (g.0, g.1, g.2, g.3, lp.deeper e m g.0 ts g.2 g.4, lq.deeper e m g.1 g.2 rest g.5);
      fronts_deeper = both_fronts_deeper;
      steady = both_steady;
    }

  -- ---- a construct that a token opens
  module _ {A B C : Type 0} {f : T → Option A} {set : List ℕ} (word : Takes kind f set) (g : A → B → C) (R : ℕ → Rule T B) (some : GoesOn R []) where
    abbrev O : ℕ → Rule T C
    O e = opened e f g (R (pred e))

    -- the token and any text behind it
    opened_lives : GoesOn O []
    opened_lives = (suc some.0, by)
      where
        by : (e : ℕ) → suc some.0 ≤ e → Completes (O e) []
        by zero m tail = absurd (omega arith)
        by (suc e) m tail = let z = some.1 e (omega arith) tail in (word.token ∷ z.0, g word.value z.1, (word.value, z.1, z.0 ++ tail, refl, (word.token, refl, word.taken), z.2))

    refuse_left : (here' ts : List T) (o : Option A) → left (refuse_by {B = C} here' o) ≤ length here'
    refuse_left here' ts (Some a) = omega arith
    refuse_left here' ts None = omega arith

    none_shrinks : (ts : List T) → left (refuse_one {B = C} f ts) ≤ length ts
    none_shrinks [] = omega arith
    none_shrinks (t ∷ ts) = refuse_left (t ∷ ts) ts (f t)

    refuse_stops : (here' : List T) (o : Option A) (e : Fault T) → refuse_by {B = C} here' o ≡ Err e → Stopped (λ us. us ≡ []) here' (left_of e)
    refuse_stops here' (Some a) e h = subst (λ (k : Fault T). Stopped (λ us. us ≡ []) here' (left_of k)) (let q : Deep here' ≡ e = cc in q) ([], refl, refl)
    refuse_stops here' None e h = subst (λ (k : Fault T). Stopped (λ us. us ≡ []) here' (left_of k)) (let q : Syntax here' ≡ e = cc in q) ([], refl, refl)

    none_stops : (ts : List T) (e : Fault T) → refuse_one {B = C} f ts ≡ Err e → Stopped (λ us. us ≡ []) ts (left_of e)
    none_stops [] e h = subst (λ (k : Fault T). Stopped (λ us. us ≡ []) [] (left_of k)) (let q : Syntax [] ≡ e = cc in q) ([], refl, refl)
    none_stops (t ∷ ts) e h = refuse_stops (t ∷ ts) (f t) e h

    refuse_exceeds : (t : T) (ts rest : List T) (o : Option A) → f t ≡ o → refuse_by {B = C} (t ∷ ts) o ≡ Err (Deep rest) → Over (O 1).fronts (t ∷ ts) rest
    refuse_exceeds t ts rest (Some a) q h =
        let r : t ∷ ts ≡ rest = cc in
        ([], t, ts, sym r, refl, inl (inr (a, (t, refl, q))))
    refuse_exceeds t ts rest None q h = cc

    none_exceeds : (ts rest : List T) → refuse_one {B = C} f ts ≡ Err (Deep rest) → Over (O 1).fronts ts rest
    none_exceeds [] rest h = cc
    none_exceeds (t ∷ ts) rest h = refuse_exceeds t ts rest (f t) refl h

    none_fronts : (e : ℕ) → (us : List T) → us ≡ [] → (O e).fronts us
    none_fronts zero us h = h
    none_fronts (suc e) us h = inl (inl h)

    refuse_steady : (t : T) (ts : List T) (o : Option A) (next : A × List T → Read T C) → Steady (refuse_by {B = C} (t ∷ ts) o) (bind (take_by (t ∷ ts) ts o) next)
    refuse_steady t ts (Some a) next = tt
    refuse_steady t ts None next = refl

    none_steady : (e : ℕ) → (ts : List T) → Steady (refuse_one {B = C} f ts) ((O e).read ts)
    none_steady zero ts = steady_same (refuse_one f ts)
    none_steady (suc e) [] = refl
    none_steady (suc e) (t ∷ ts) = refuse_steady t ts (f t) (λ x. bind ((R e).read x.1) (λ y. Ok (g x.0 y.0, y.1)))

    refuse_not_ok : (here' : List T) (o : Option A) (x : C × List T) → refuse_by {B = C} here' o ≡ Ok x → ⊥
    refuse_not_ok here' (Some a) x e = cc
    refuse_not_ok here' None x e = cc

    not_ok : (ts : List T) (x : C × List T) → refuse_one {B = C} f ts ≡ Ok x → ⊥
    not_ok [] x e = cc
    not_ok (t ∷ ts) x e = refuse_not_ok (t ∷ ts) (f t) x e

    none_lawful : (s : Shape) → Lawful kind (shape set false s.after true) O 0
    none_lawful s = record {
      sound = λ ts x e. absurd (not_ok ts x e);
      complete = λ c ts rest h m. absurd h;
      framed = λ c ts rest h. absurd h;
      begins = λ c ts rest h. absurd h;
      closed = λ c us tail rest h m. absurd h;
      shorter = empty_shorter;
      front_begins = λ t us h. cc;
      begun = refl;
      lives = λ e. opened_lives;
      goes_on = λ t us h. cc;
      keeps = λ us tail h. rw h (none_shrinks tail);
      shrinks = none_shrinks;
      stops = none_stops;
      exceeds = none_exceeds;
      deeper = λ e m c ts rest h. absurd h;
      fronts_deeper = λ e m us h. none_fronts e us h;
      steady = λ e m ts. none_steady e ts;
    }

    set_if_nothing : (b : Bool) → set_if b [] ≡ []
    set_if_nothing true = refl
    set_if_nothing false = refl

    some_lawful : (s : Shape) (k : ℕ) → Lawful kind s R k → s.live ≡ true → Lawful kind (shape set false s.after true) (λ e. both g (expect f) (R e)) k
    some_lawful s k l live =
        widened_by (both_lawful g (expect_lawful word k) l (apart_nothing s.first) live) (shape set false s.after true)
        (λ n e. rw append-nil at e) (λ n e. rw (set_if_nothing s.empty, append-nil) e) (λ e. cc) (λ e. refl)

    -- The rule inside needs to keep the laws with one construct less to be opened.
    pub opened_lawful : {s : Shape} (d : ℕ) → ((k : ℕ) → d ≡ suc k → Lawful kind s R k) → s.live ≡ true → Lawful kind (shape set false s.after true) O d
    opened_lawful {s = s} zero l live = none_lawful s
    opened_lawful {s = s} (suc k) l live = next_lawful (some_lawful s k (l k refl) live) O (λ e. refl)
