-- A first value and steps behind it.
use Rattle.std.proofs.Common.{◌≡◌, ℕ, zero, suc, ◌+◌, ◌≤◌, ◌<◌, ◌⊎◌, inl, inr, Bool, true, false, cond, List, [], ◌∷◌, ◌++◌, length, append-nil, append_assoc, Ok, Err, refl, sym, ap, ◌∙◌, subst, arith}
use Rattle.sql_grammar.specs.Sets.{member, within, apart, next_in}
use Rattle.sql_grammar.specs.Reader.{Fault, left_of, Deep, Reader, bind, steps}
use Rattle.sql_grammar.specs.Grammar.{Chain, first, next}
use Rattle.sql_grammar.specs.Rule.{Rule, chain_by, chain, alone, then_one, listed}
use Rattle.sql_grammar.proofs.Lists.{set_if, set_if_in, le_or, split, next_within, next_apart, within_member, apart_member, next_left, next_right, next_neither}
use Rattle.sql_grammar.proofs.Lawful.{Shape, shape, left, Steady, Stopped, Over, GoesOn, Framed, Begun, Lawful, bind_ok, bind_err, bind_left, bind_steady, behind_stop, behind_over, over_by, stop_by}
use Rattle.sql_grammar.proofs.Single.{mapped_lawful}
use Rattle.sql_grammar.proofs.Sequence.{both_shape, both_lawful}

-- what is known of a chain whose steps begin with kinds of the set
abbrev pub chain_shape : Shape → Shape → List ℕ → Shape
chain_shape s s' set = shape (s.first ++ set_if s.empty s'.first) s.empty (set ++ (s.after ++ s'.after)) s.live

module _ {T : Type 0} {kind : T → ℕ} where
  module _ {A B : Type 0} (f : A → B → A) (set : List ℕ) {s s' : Shape} {P : ℕ → Rule T A} {S : ℕ → A → Rule T B} {d : ℕ} (lp : Lawful kind s P d) (ls : (a : A) → Lawful kind s' (λ e. S e a) d)
      (some : s'.empty ≡ false) (in' : within s'.first set ≡ true) (ends : apart set s.after ≡ true) (between : apart set s'.after ≡ true) where
    abbrev C : ℕ → Rule T A
    C e = chain_by kind f set (P e) (S e)

    abbrev Chained : ℕ → A → List T → List T → Type 0
    Chained e a ts rest = Chain f (P e).texts (λ b. (S e b).texts) a ts rest

    abbrev go : ℕ → ℕ → A → Reader T A
    go e n a ts = steps f (next_in kind set) (λ b. (S e b).read) n a ts

    abbrev turn : ℕ → ℕ → Bool → A → Reader T A
    turn e n b a ts = cond b (bind ((S e a).read ts) (λ y. go e n (f a y.0) y.1)) (Ok (a, ts))

    steps_turn : (e n : ℕ) (a : A) (ts : List T) → go e (suc n) a ts ≡ turn e n (next_in kind set ts) a ts
    unfolding steps
    steps_turn e n a ts = refl

    steps_done : (n : ℕ) (a : A) (ts : List T) → next_in kind set ts ≡ false → go d n a ts ≡ Ok (a, ts)
    unfolding steps
    steps_done zero a ts e = refl
    steps_done (suc n) a ts e = rw e refl

    step_begins : (a : A) (b : B) (mid rest : List T) → (S d a).texts b mid rest → (next_in kind s'.first mid ≡ true) × (length rest < length mid)
    step_begins a b mid rest h = elim ((ls a).begins b mid rest h) [ inl k ↦ k | inr k ↦ (let q : true ≡ false = sym k.0 ∙ some in cc) ]

    -- sound
    abbrev Goes : ℕ → Type 0
    Goes n = (front : List T) (a : A) (ts : List T) (x : A × List T) → Chained d a front ts → go d n a ts ≡ Ok x → Chained d x.0 front x.1

    same_end : (front : List T) (a : A) (ts : List T) (x : A × List T) → Chained d a front ts → (a, ts) ≡ x → Chained d x.0 front x.1
    same_end front a ts x c q = subst (λ (z : A × List T). Chained d z.0 front z.1) q c

    turn_sound : (n : ℕ) → Goes n → (b : Bool) (front : List T) (a : A) (ts : List T) (x : A × List T) → Chained d a front ts → turn d n b a ts ≡ Ok x → Chained d x.0 front x.1
    turn_sound n more true front a ts x c e =
        let k = bind_ok ((S d a).read ts) (λ y. go d n (f a y.0) y.1) x e in
        more front (f a k.0.0) k.0.1 x (next k.0.0 c ((ls a).sound ts k.0 k.1)) k.2
    turn_sound n more false front a ts x c e = same_end front a ts x c cc

    steps_sound : (n : ℕ) → Goes n
    unfolding steps
    steps_sound zero front a ts x c e = same_end front a ts x c cc
    steps_sound (suc n) front a ts x c e = turn_sound n (steps_sound n) (next_in kind set ts) front a ts x c e

    chain_sound : (ts : List T) (x : A × List T) → (C d).read ts ≡ Ok x → Chained d x.0 ts x.1
    chain_sound ts x e =
        let k = bind_ok ((P d).read ts) (λ x. go d (length x.1) x.0 x.1) x e in
        steps_sound (length k.0.1) ts k.0.0 k.0.1 x (first (lp.sound ts k.0 k.1)) k.2

    -- complete
    abbrev Reaches : A → List T → List T → Type 0
    Reaches a ts rest = (n : ℕ) × (length rest ≤ n) × ((C d).read ts ≡ go d n a rest)

    one_on : (a : A) (b : B) (ts mid rest : List T) → length rest < length mid → next_in kind set mid ≡ true → (S d a).read mid ≡ Ok (b, rest) → (n : ℕ) → length mid ≤ n → (C d).read ts ≡ go d n a mid → Reaches (f a b) ts rest
    one_on a b ts mid rest l t e zero m q = absurd (omega arith)
    one_on a b ts mid rest l t e (suc n) m q = (n, omega arith, q ∙ (steps_turn d n a mid ∙ rw (t, e) refl))

    reaches : {a : A} {ts rest : List T} → Chained d a ts rest → next_in kind s.after rest ≡ false → next_in kind s'.after rest ≡ false → Reaches a ts rest
    reaches (first {a = a} {ts = ts} {rest = rest} g) p q = (length rest, omega arith, rw (lp.complete a ts rest g p) refl)
    reaches (next {a = a} {ts = ts} {mid = mid} {rest = rest} b c h) p q =
        let k = step_begins a b mid rest h in
        let t = next_within kind mid s'.first set in' k.0 in
        let r = reaches c (next_apart kind mid set s.after ends t) (next_apart kind mid set s'.after between t) in
        one_on a b ts mid rest k.1 t ((ls a).complete b mid rest h q) r.0 r.1 r.2

    chain_complete : (a : A) (ts rest : List T) → Chained d a ts rest → next_in kind (set ++ (s.after ++ s'.after)) rest ≡ false → (C d).read ts ≡ Ok (a, rest)
    chain_complete a ts rest c h =
        let m = next_neither kind rest set (s.after ++ s'.after) h in
        let o = next_neither kind rest s.after s'.after m.1 in
        let r = reaches c o.0 o.1 in
        r.2 ∙ steps_done r.0 a rest m.0

    -- frame
    join : (a : A) (b : B) (ts mid rest : List T) → Framed (C d) a ts mid → Framed (S d a) b mid rest → Framed (C d) (f a b) ts rest
    join a b ts mid rest k l =
        (k.0 ++ l.0, k.1 ∙ (ap (λ us. k.0 ++ us) l.1 ∙ sym (append_assoc k.0 l.0 rest)), λ more. rw append_assoc (next b (k.2 (l.0 ++ more)) (l.2 more)))

    chain_framed : {a : A} {ts rest : List T} → Chained d a ts rest → Framed (C d) a ts rest
    chain_framed (first {a = a} {ts = ts} {rest = rest} g) = let k = lp.framed a ts rest g in (k.0, k.1, λ more. first (k.2 more))
    chain_framed (next {a = a} {ts = ts} {mid = mid} {rest = rest} b c h) = join a b ts mid rest (chain_framed c) ((ls a).framed b mid rest h)

    -- what it begins with
    abbrev ChainBegun : List T → List T → Type 0
    ChainBegun ts rest = Begun kind (chain_shape s s' set) ts rest

    first_begun : (ts rest : List T) → Begun kind s ts rest → ChainBegun ts rest
    first_begun ts rest (inl b) = inl (next_left kind ts s.first (set_if s.empty s'.first) b.0, b.1)
    first_begun ts rest (inr b) = inr b

    next_begun : (ts mid rest : List T) → ChainBegun ts mid → next_in kind s'.first mid ≡ true → length rest < length mid → ChainBegun ts rest
    next_begun ts mid rest (inl b) e l = inl (b.0, omega (arith, b.1))
    next_begun ts mid rest (inr b) e l =
        inl (next_right kind ts s.first (set_if s.empty s'.first) (set_if_in kind s.empty s'.first ts b.0 (rw b.1 e)), omega (arith, ap length b.1))

    chain_begins : {a : A} {ts rest : List T} → Chained d a ts rest → ChainBegun ts rest
    chain_begins (first {a = a} {ts = ts} {rest = rest} g) = first_begun ts rest (lp.begins a ts rest g)
    chain_begins (next {a = a} {ts = ts} {mid = mid} {rest = rest} b c h) = let k = step_begins a b mid rest h in next_begun ts mid rest (chain_begins c) k.0 k.1

    -- A front is one of the first value, or there are a whole chain and a front of a step that is not empty.
    abbrev Parts : List T → Type 0
    Parts us = (P d).fronts us ⊎ ((a : A) × (t : T) × (ws : List T) × Chained d a us (t ∷ ws) × (S d a).fronts (t ∷ ws))

    parts_front : (us : List T) → Parts us → (C d).fronts us
    parts_front us (inl h) = inl h
    parts_front us (inr h) = inr (h.0, h.1 ∷ h.2, h.3, h.4)

    closed_step : (a : A) (b : B) (us ws front mid tail rest : List T) → us ≡ front ++ ws → mid ≡ ws ++ tail → ((more : List T) → Chained d a (front ++ more) more) → (S d a).texts b mid rest
        → length tail < length mid → length rest ≤ length tail → Parts us
    closed_step a b us [] front mid tail rest e q k h l m = absurd (omega (arith, ap length q))
    closed_step a b us (t ∷ ws) front mid tail rest e q k h l m = inr (a, t, ws, rw e (k (t ∷ ws)), (ls a).closed b (t ∷ ws) tail rest (rw q at h) m)

    closed_by : {a : A} {ts rest : List T} → Chained d a ts rest → (us tail : List T) → ts ≡ us ++ tail → length rest ≤ length tail → Parts us
    closed_by (first {a = a} {ts = ts} {rest = rest} g) us tail e l = inl (lp.closed a us tail rest (subst (λ (vs : List T). (P d).texts a vs rest) e g) l)
    closed_by (next {a = a} {ts = ts} {mid = mid} {rest = rest} b c h) us tail e l = elim (le_or (length mid) (length tail)) [
      | inl m ↦ closed_by c us tail e m
      | inr m ↦ (let k = chain_framed c in
          let w = split us tail k.0 mid (sym e ∙ k.1) (omega arith) in
          closed_step a b us w.0 k.0 mid tail rest w.1 w.2 k.2 h m l)
    ]

    shorter_step : (a : A) (us ws front mid tail : List T) → us ≡ front ++ ws → mid ≡ ws ++ tail → ((more : List T) → Chained d a (front ++ more) more) → (S d a).fronts mid → (C d).fronts us
    shorter_step a us ws front mid tail e q k h = inr (a, ws, rw e (k ws), (ls a).shorter ws tail (rw q at h))

    shorter_by : (us tail mid : List T) (a : A) → Chained d a (us ++ tail) mid → (S d a).fronts mid → (C d).fronts us
    shorter_by us tail mid a c h = elim (le_or (length mid) (length tail)) [
      | inl m ↦ parts_front us (closed_by c us tail refl m)
      | inr m ↦ (let k = chain_framed c in
          let w = split us tail k.0 mid k.1 (omega arith) in
          shorter_step a us w.0 k.0 mid tail w.1 w.2 k.2 h)
    ]

    chain_shorter : (us tail : List T) → (C d).fronts (us ++ tail) → (C d).fronts us
    chain_shorter us tail (inl h) = inl (lp.shorter us tail h)
    chain_shorter us tail (inr h) = shorter_by us tail h.1 h.0 h.2 h.3

    chain_front_begins : (t : T) (us : List T) → (C d).fronts (t ∷ us) → member (kind t) (s.first ++ set_if s.empty s'.first) ≡ true
    chain_front_begins t us (inl h) = next_left kind (t ∷ us) s.first (set_if s.empty s'.first) (lp.front_begins t us h)
    chain_front_begins t us (inr h) = elim (chain_begins h.2) [
      | inl k ↦ k.0
      | inr k ↦ next_right kind (t ∷ us) s.first (set_if s.empty s'.first) (set_if_in kind s.empty s'.first (t ∷ us) k.0 ((ls h.0).front_begins t us (rw k.1 h.3)))
    ]

    -- what may be opened may be more
    chain_deeper : (e : ℕ) → d ≤ e → {a : A} {ts rest : List T} → Chained d a ts rest → Chained e a ts rest
    chain_deeper e m (first {a = a} {ts = ts} {rest = rest} g) = first (lp.deeper e m a ts rest g)
    chain_deeper e m (next {a = a} {ts = ts} {mid = mid} {rest = rest} b c h) = next b (chain_deeper e m c) ((ls a).deeper e m b mid rest h)

    chain_fronts_deeper : (e : ℕ) → d ≤ e → (us : List T) → (C d).fronts us → (C e).fronts us
    chain_fronts_deeper e m us (inl h) = inl (lp.fronts_deeper e m us h)
    chain_fronts_deeper e m us (inr h) = inr (h.0, h.1, chain_deeper e m h.2, (ls h.0).fronts_deeper e m h.1 h.3)

    -- going on
    first_goes : (us : List T) → GoesOn P us → GoesOn C us
    first_goes us k = (k.0, λ e m tail. let z = k.1 e m tail in (z.0, z.1, first z.2))

    whole_goes : (us : List T) (a : A) → Chained d a us [] → GoesOn C us
    whole_goes us a c =
        let k = chain_framed c in
        let same : us ≡ k.0 = k.1 ∙ append-nil k.0 in
        (d, λ e m tail. ([], a, rw same (chain_deeper e m (k.2 tail))))

    step_goes : (us mid : List T) (a : A) → Chained d a us mid → GoesOn (λ e. S e a) mid → GoesOn C us
    step_goes us mid a c k =
        let l = chain_framed c in (
          d + k.0,
          λ e m tail.
              let z = k.1 e (omega arith) tail in
              (z.0, f a z.1, rw (l.1, append_assoc) (next z.1 (chain_deeper e (omega arith) (l.2 (mid ++ (z.0 ++ tail)))) z.2)),
        )

    parts_go : (t : T) (us mid : List T) (a : A) → Chained d a (t ∷ us) mid → (S d a).fronts mid → GoesOn C (t ∷ us)
    parts_go t us [] a c h = whole_goes (t ∷ us) a c
    parts_go t us (y ∷ mid) a c h = step_goes (t ∷ us) (y ∷ mid) a c ((ls a).goes_on y mid h)

    chain_goes_on : (t : T) (us : List T) → (C d).fronts (t ∷ us) → GoesOn C (t ∷ us)
    chain_goes_on t us (inl h) = first_goes (t ∷ us) (lp.goes_on t us h)
    chain_goes_on t us (inr h) = parts_go t us h.1 h.0 h.2 h.3

    -- what is left
    turn_left : (n : ℕ) → ((a : A) (ts : List T) → left (go d n a ts) ≤ length ts) → (b : Bool) (a : A) (ts : List T) → left (turn d n b a ts) ≤ length ts
    turn_left n more true a ts = bind_left ((S d a).read ts) (λ y. go d n (f a y.0) y.1) (length ts) ((ls a).shrinks ts) (λ b q. more (f a b) q)
    turn_left n more false a ts = omega arith

    steps_left : (n : ℕ) (a : A) (ts : List T) → left (go d n a ts) ≤ length ts
    unfolding steps
    steps_left zero a ts = omega arith
    steps_left (suc n) a ts = turn_left n (steps_left n) (next_in kind set ts) a ts

    go_keeps : (n : ℕ) (a : A) (t : T) (ws tail : List T) → length (t ∷ ws ++ tail) ≤ n → (S d a).fronts (t ∷ ws) → left (go d n a (t ∷ ws ++ tail)) ≤ length tail
    go_keeps zero a t ws tail l h = absurd (omega arith)
    go_keeps (suc n) a t ws tail l h =
        let q = within_member (kind t) s'.first set in' ((ls a).front_begins t ws h) in
        rw (steps_turn d n a (t ∷ ws ++ tail), q) (bind_left ((S d a).read (t ∷ ws ++ tail)) (λ y. go d n (f a y.0) y.1) (length tail) ((ls a).keeps (t ∷ ws) tail h) (λ b us. steps_left n (f a b) us))

    parts_keep : (us tail : List T) → Parts us → left ((C d).read (us ++ tail)) ≤ length tail
    parts_keep us tail (inl h) = bind_left ((P d).read (us ++ tail)) (λ x. go d (length x.1) x.0 x.1) (length tail) (lp.keeps us tail h) (λ a q. steps_left (length q) a q)
    parts_keep us tail (inr h) =
        let k = chain_framed h.3 in
        let q = within_member (kind h.1) s'.first set in' ((ls h.0).front_begins h.1 h.2 h.4) in
        let r = reaches (k.2 (h.1 ∷ h.2 ++ tail)) (apart_member (kind h.1) set s.after ends q) (apart_member (kind h.1) set s'.after between q) in
        let same : us ++ tail ≡ k.0 ++ (h.1 ∷ h.2 ++ tail) = ap (λ vs. vs ++ tail) k.1 ∙ append_assoc k.0 (h.1 ∷ h.2) tail in
        rw (same, r.2) (go_keeps r.0 h.0 h.1 h.2 tail r.1 h.4)

    mid_keeps : (us mid tail : List T) (a : A) → Chained d a us mid → (S d a).fronts mid → left ((C d).read (us ++ tail)) ≤ length tail
    mid_keeps us [] tail a c h = parts_keep us tail (closed_by c us [] (sym (append-nil us)) (omega arith))
    mid_keeps us (t ∷ mid) tail a c h = parts_keep us tail (inr (a, t, mid, c, h))

    chain_keeps : (us tail : List T) → (C d).fronts us → left ((C d).read (us ++ tail)) ≤ length tail
    chain_keeps us tail (inl h) = parts_keep us tail (inl h)
    chain_keeps us tail (inr h) = mid_keeps us h.1 tail h.0 h.2 h.3

    -- faults
    step_front : (e : ℕ) (front : List T) (a : A) → ((more : List T) → Chained e a (front ++ more) more) → (us : List T) → (S e a).fronts us → (C e).fronts (front ++ us)
    step_front e front a c us h = inr (a, us, c us, h)

    abbrev Stops : ℕ → Type 0
    Stops n = (front : List T) (a : A) (ts : List T) (e : Fault T) → Chained d a front ts → go d n a ts ≡ Err e → Stopped (C d).fronts front (left_of e)

    turn_stops : (n : ℕ) → Stops n → (b : Bool) (front : List T) (a : A) (ts : List T) (e : Fault T) → Chained d a front ts → turn d n b a ts ≡ Err e → Stopped (C d).fronts front (left_of e)
    turn_stops n more true front a ts e c h = elim (bind_err ((S d a).read ts) (λ y. go d n (f a y.0) y.1) e h) [
      | inl k ↦ (let l = chain_framed c in rw l.1 (behind_stop (S d a).fronts (C d).fronts l.0 ts (left_of e) (step_front d l.0 a l.2) ((ls a).stops ts e k)))
      | inr k ↦ more front (f a k.0.0) k.0.1 e (next k.0.0 c ((ls a).sound ts k.0 k.1)) k.2
    ]
    turn_stops n more false front a ts e c h = cc

    steps_stop : (n : ℕ) → Stops n
    unfolding steps
    steps_stop zero front a ts e c h = cc
    steps_stop (suc n) front a ts e c h = turn_stops n (steps_stop n) (next_in kind set ts) front a ts e c h

    chain_stops : (ts : List T) (e : Fault T) → (C d).read ts ≡ Err e → Stopped (C d).fronts ts (left_of e)
    chain_stops ts e h = elim (bind_err ((P d).read ts) (λ x. go d (length x.1) x.0 x.1) e h) [
      | inl k ↦ stop_by (P d).fronts (C d).fronts ts (left_of e) (λ us z. inl z) (lp.stops ts e k)
      | inr k ↦ steps_stop (length k.0.1) ts k.0.0 k.0.1 e (first (lp.sound ts k.0 k.1)) k.2
    ]

    abbrev Exceeds : ℕ → Type 0
    Exceeds n = (front : List T) (a : A) (ts rest : List T) → Chained d a front ts → go d n a ts ≡ Err (Deep rest) → Over (C (suc d)).fronts front rest

    turn_exceeds : (n : ℕ) → Exceeds n → (b : Bool) (front : List T) (a : A) (ts rest : List T) → Chained d a front ts → turn d n b a ts ≡ Err (Deep rest) → Over (C (suc d)).fronts front rest
    turn_exceeds n more true front a ts rest c h = elim (bind_err ((S d a).read ts) (λ y. go d n (f a y.0) y.1) (Deep rest) h) [
      | inl k ↦ (let l = chain_framed c in
          rw l.1 (behind_over (S (suc d) a).fronts (C (suc d)).fronts l.0 ts rest (step_front (suc d) l.0 a (λ us. chain_deeper (suc d) (omega arith) (l.2 us))) ((ls a).exceeds ts rest k)))
      | inr k ↦ more front (f a k.0.0) k.0.1 rest (next k.0.0 c ((ls a).sound ts k.0 k.1)) k.2
    ]
    turn_exceeds n more false front a ts rest c h = cc

    steps_exceed : (n : ℕ) → Exceeds n
    unfolding steps
    steps_exceed zero front a ts rest c h = cc
    steps_exceed (suc n) front a ts rest c h = turn_exceeds n (steps_exceed n) (next_in kind set ts) front a ts rest c h

    chain_exceeds : (ts rest : List T) → (C d).read ts ≡ Err (Deep rest) → Over (C (suc d)).fronts ts rest
    chain_exceeds ts rest h = elim (bind_err ((P d).read ts) (λ x. go d (length x.1) x.0 x.1) (Deep rest) h) [
      | inl k ↦ over_by (P (suc d)).fronts (C (suc d)).fronts ts rest (λ us z. inl z) (lp.exceeds ts rest k)
      | inr k ↦ steps_exceed (length k.0.1) ts k.0.0 k.0.1 rest (first (lp.sound ts k.0 k.1)) k.2
    ]

    turn_steady : (e n : ℕ) → d ≤ e → ((a : A) (ts : List T) → Steady (go d n a ts) (go e n a ts)) → (b : Bool) (a : A) (ts : List T) → Steady (turn d n b a ts) (turn e n b a ts)
    turn_steady e n m more true a ts =
        bind_steady ((S d a).read ts) ((S e a).read ts) (λ y. go d n (f a y.0) y.1) (λ y. go e n (f a y.0) y.1) ((ls a).steady e m ts) (λ y. more (f a y.0) y.1)
    turn_steady e n m more false a ts = refl

    steps_steady : (e n : ℕ) → d ≤ e → (a : A) (ts : List T) → Steady (go d n a ts) (go e n a ts)
    unfolding steps
    steps_steady e zero m a ts = refl
    steps_steady e (suc n) m a ts = turn_steady e n m (steps_steady e n m) (next_in kind set ts) a ts

    pub chain_by_lawful : Lawful kind (chain_shape s s' set) (λ e. chain_by kind f set (P e) (S e)) d
    chain_by_lawful = record {
      sound = chain_sound;
      complete = chain_complete;
      framed = λ a ts rest c. chain_framed c;
      begins = λ a ts rest c. chain_begins c;
      closed = λ a us tail rest c l. parts_front us (closed_by c us tail refl l);
      shorter = chain_shorter;
      front_begins = chain_front_begins;
      begun = inl lp.begun;
      lives = λ e. first_goes [] (lp.lives e);
      goes_on = chain_goes_on;
      keeps = chain_keeps;
      shrinks = λ ts. bind_left ((P d).read ts) (λ x. go d (length x.1) x.0 x.1) (length ts) (lp.shrinks ts) (λ a q. steps_left (length q) a q);
      stops = chain_stops;
      exceeds = chain_exceeds;
      deeper = λ e m a ts rest c. chain_deeper e m c;
      fronts_deeper = chain_fronts_deeper;
      steady = λ e m ts. bind_steady ((P d).read ts) ((P e).read ts) (λ x. go d (length x.1) x.0 x.1) (λ x. go e (length x.1) x.0 x.1) (lp.steady e m ts) (λ x. steps_steady e (length x.1) m x.0 x.1);
    }

  -- steps that do not depend on the value so far
  pub chain_lawful : {A B : Type 0} (f : A → B → A) (set : List ℕ) {s s' : Shape} {P : ℕ → Rule T A} {Q : ℕ → Rule T B} {d : ℕ} → Lawful kind s P d → Lawful kind s' Q d
      → s'.empty ≡ false → within s'.first set ≡ true → apart set s.after ≡ true → apart set s'.after ≡ true → Lawful kind (chain_shape s s' set) (λ e. chain kind f set (P e) (Q e)) d
  chain_lawful f set {Q = Q} lp lq some in' ends between = chain_by_lawful f set {S = λ e a. Q e} lp (λ a. lq) some in' ends between

  -- one or more, with separators between
  pub listed_lawful : {A B : Type 0} (set : List ℕ) {s s' : Shape} {P : ℕ → Rule T A} {Q : ℕ → Rule T B} {d : ℕ} → Lawful kind s' Q d → Lawful kind s P d → (apart s.first s'.after ≡ true) × (s.live ≡ true)
      → (both_shape s' s).empty ≡ false → within (both_shape s' s).first set ≡ true → apart set s.after ≡ true → apart set (both_shape s' s).after ≡ true
      → Lawful kind (chain_shape s (both_shape s' s) set) (λ e. listed kind set (Q e) (P e)) d
  listed_lawful set lq lp fits some in' ends between = chain_lawful then_one set (mapped_lawful alone lp) (both_lawful (λ a b. b) lq lp fits.0 fits.1) some in' ends between
