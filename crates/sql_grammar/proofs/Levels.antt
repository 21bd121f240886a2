-- Rules that differ only in how they are given.
use Rattle.std.proofs.Common.{◌≡◌, ℕ, zero, suc, pred, ◌≤◌, List, [], ◌∷◌, Err, subst, arith}
use Rattle.sql_grammar.specs.Reader.{Deep}
use Rattle.sql_grammar.specs.Rule.{Rule}
use Rattle.sql_grammar.proofs.Lawful.{Shape, Lawful, GoesOn, Completes, Over, Steady}

module _ {T : Type 0} {kind : T → ℕ} where
  -- ---- a rule whose value for one number more is the other rule's
  module _ {A : Type 0} {s : Shape} {Q : ℕ → Rule T A} {k : ℕ} (l : Lawful kind s Q k) (P : ℕ → Rule T A) (next : (e : ℕ) → P (suc e) ≡ Q e) where
    next_goes_on : (us : List T) → GoesOn Q us → GoesOn P us
    next_goes_on us g = (suc g.0, by)
      where
        by : (e : ℕ) → suc g.0 ≤ e → Completes (P e) us
        by zero m = absurd (omega arith)
        by (suc e) m = rw (next e) (g.1 e (omega arith))

    next_exceeds : (ts rest : List T) → (P (suc k)).read ts ≡ Err (Deep rest) → Over (P (suc (suc k))).fronts ts rest
    next_exceeds ts rest h = rw (next (suc k)) (l.exceeds ts rest (rw (next k) at h))

    next_deeper : (e : ℕ) → suc k ≤ e → (a : A) (ts rest : List T) → (P (suc k)).texts a ts rest → (P e).texts a ts rest
    next_deeper zero m a ts rest g = absurd (omega arith)
    next_deeper (suc e) m a ts rest g = rw (next e) (l.deeper e (omega arith) a ts rest (rw (next k) at g))

    next_fronts_deeper : (e : ℕ) → suc k ≤ e → (us : List T) → (P (suc k)).fronts us → (P e).fronts us
    next_fronts_deeper zero m us h = absurd (omega arith)
    next_fronts_deeper (suc e) m us h = rw (next e) (l.fronts_deeper e (omega arith) us (rw (next k) at h))

    next_steady : (e : ℕ) → suc k ≤ e → (ts : List T) → Steady ((P (suc k)).read ts) ((P e).read ts)
    next_steady zero m ts = absurd (omega arith)
    next_steady (suc e) m ts = rw (next k, next e) (l.steady e (omega arith) ts)

    pub next_lawful : Lawful kind s P (suc k)
    next_lawful = record {
      sound = λ ts x e. rw (next k) (l.sound ts x (rw (next k) at e));
      complete = λ a ts rest g h. rw (next k) (l.complete a ts rest (rw (next k) at g) h);
      framed = λ a ts rest g. rw (next k) (l.framed a ts rest (rw (next k) at g));
      begins = λ a ts rest g. l.begins a ts rest (rw (next k) at g);
      closed = λ a us tail rest g m. rw (next k) (l.closed a us tail rest (rw (next k) at g) m);
      shorter = λ us tail h. rw (next k) (l.shorter us tail (rw (next k) at h));
      front_begins = λ t us h. l.front_begins t us (rw (next k) at h);
      begun = rw (next k) l.begun;
      lives = λ e. next_goes_on [] (l.lives e);
      goes_on = λ t us h. next_goes_on (t ∷ us) (l.goes_on t us (rw (next k) at h));
      keeps = λ us tail h. rw (next k) (l.keeps us tail (rw (next k) at h));
      shrinks = λ ts. rw (next k) (l.shrinks ts);
      stops = λ ts e h. rw (next k) (l.stops ts e (rw (next k) at h));
      exceeds = next_exceeds;
      deeper = next_deeper;
      fronts_deeper = next_fronts_deeper;
      steady = next_steady;
    }

  -- ---- a rule that is the other rule for each number, as one is that is defined by recursion on it
  module _ {A : Type 0} {s : Shape} {Q : ℕ → Rule T A} {d : ℕ} (l : Lawful kind s Q d) (P : ℕ → Rule T A) (same : (e : ℕ) → P e ≡ Q e) where
    same_goes_on : (us : List T) → GoesOn Q us → GoesOn P us
    same_goes_on us g = (g.0, λ e m. rw (same e) (g.1 e m))

    pub same_lawful : Lawful kind s P d
    same_lawful = record {
      sound = λ ts x e. rw (same d) (l.sound ts x (rw (same d) at e));
      complete = λ a ts rest g h. rw (same d) (l.complete a ts rest (rw (same d) at g) h);
      framed = λ a ts rest g. rw (same d) (l.framed a ts rest (rw (same d) at g));
      begins = λ a ts rest g. l.begins a ts rest (rw (same d) at g);
      closed = λ a us tail rest g m. rw (same d) (l.closed a us tail rest (rw (same d) at g) m);
      shorter = λ us tail h. rw (same d) (l.shorter us tail (rw (same d) at h));
      front_begins = λ t us h. l.front_begins t us (rw (same d) at h);
      begun = rw (same d) l.begun;
      lives = λ e. same_goes_on [] (l.lives e);
      goes_on = λ t us h. same_goes_on (t ∷ us) (l.goes_on t us (rw (same d) at h));
      keeps = λ us tail h. rw (same d) (l.keeps us tail (rw (same d) at h));
      shrinks = λ ts. rw (same d) (l.shrinks ts);
      stops = λ ts e h. rw (same d) (l.stops ts e (rw (same d) at h));
      exceeds = λ ts rest h. rw (same (suc d)) (l.exceeds ts rest (rw (same d) at h));
      deeper = λ e m a ts rest g. rw (same e) (l.deeper e m a ts rest (rw (same d) at g));
      fronts_deeper = λ e m us h. rw (same e) (l.fronts_deeper e m us (rw (same d) at h));
      steady = λ e m ts. rw (same d, same e) (l.steady e m ts);
    }

  -- A rule that is defined by recursion on the number keeps the laws, if it does where the rule below it does.
  pub recursive_lawful : {A : Type 0} {s : Shape} (P : ℕ → Rule T A) (by : ℕ → Rule T A → Rule T A) → ((e : ℕ) → P e ≡ by e (P (pred e)))
      → ((d : ℕ) → ((k : ℕ) → d ≡ suc k → Lawful kind s P k) → Lawful kind s (λ e. by e (P (pred e))) d) → (d : ℕ) → Lawful kind s P d
  recursive_lawful P by same step zero = same_lawful (step zero (λ k e. absurd (omega (arith, e)))) P same
  recursive_lawful {s = s} P by same step (suc d) =
      same_lawful (step (suc d) (λ k e. subst (λ (n : ℕ). Lawful kind s P n) (let q : d ≡ k = omega (arith, e) in q) (recursive_lawful P by same step d))) P same

-- What holds at each number, if it does where it holds at the one below: for several rules that are defined together.
pub by_levels : (Holds : ℕ → Type 0) → ((d : ℕ) → ((k : ℕ) → d ≡ suc k → Holds k) → Holds d) → (d : ℕ) → Holds d
by_levels Holds step zero = step zero (λ k e. absurd (omega (arith, e)))
by_levels Holds step (suc d) = step (suc d) (λ k e. subst Holds (let q : d ≡ k = omega (arith, e) in q) (by_levels Holds step d))
