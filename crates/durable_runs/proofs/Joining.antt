-- How runs come to be, and how they compose.
use Rattle.std.proofs.Common.{◌≡◌, ◌⊎◌, inl, inr, ℕ, ◌+◌, ◌<◌, ◌≤◌, false, nat_le, List, [], ◌∷◌, ◌++◌, length, take, Option, Some, None, refl, sym, ◌∙◌, ap, subst, arith, append_assoc}
use Rattle.std.specs.Prelude.{IfSome}
use Rattle.std.specs.Option.{option_and_then}
use Rattle.std.proofs.lemmas.Bool.{cases_lt, lt-leb}
use Rattle.std.proofs.lemmas.List.{length-append, take-append-le, append-nil}
use Rattle.disk_model.specs.Story.{Image, Story, count, seen}
use Rattle.disk_model.specs.Moments.{Each, Since, Always, GoesOn, IsSettled}
use Rattle.disk_model.proofs.Moments.{since_none, since_map, since_joined, since_start, since_last, on_refl, on_trans, on_count}
use Rattle.disk_model.proofs.Laws.{by_left}
use Rattle.durable_runs.specs.Marks.{Named, named, AreBehind, Between, NameNow}
use Rattle.durable_runs.specs.Runs.{Side, behind_steps, Claim, NamesReached, Runs, Lasts}
use Rattle.durable_runs.proofs.Naming.{named_least, later_name_nothing, named_low, named_late, between_append, now_between, behind_later, behind_append, now_behind}
use Rattle.durable_runs.proofs.Steps.{some_same, steps_behind, steps_part, take_past}

module _ {S X : Type 0} (side : Side S X) where
  -- ---- claims of one run

  claim_now : (s : S) (xs : List X) (marks : List Named) (n : ℕ) (image : Image) → named (side.number s) marks n ≤ side.number s → side.Stands s image
      → Claim side s xs marks n image
  claim_now s xs marks n image holds stands = record { first = 0; within = omega arith; now = s; after = refl; stands = stands; holds = holds }

  claim_behind : (s now : S) (x : X) (marks : List Named) (n : ℕ) (image : Image) → side.step x s ≡ Some now → named (side.number s) marks n ≤ side.number now
      → side.Stands now image → Claim side s (x ∷ []) marks n image
  claim_behind s now x marks n image made holds stands =
      record { first = 1; within = omega arith; now = now; after = ap (option_and_then (behind_steps side [])) made; stands = stands; holds = holds }

  reached_same : (s now : S) → Some s ≡ Some now → side.number s ≤ side.number now
  reached_same s now e = omega (arith, ap side.number (some_same s now e))

  reached_one : (s mid now : S) (x : X) → side.step x s ≡ Some mid → behind_steps side (x ∷ []) s ≡ Some now → side.number mid ≤ side.number now
  reached_one s mid now x made e = reached_same mid now (sym (ap (option_and_then (behind_steps side [])) made) ∙ e)

  if_told : (t : Option Story) (Q : Type 0) → Q → IfSome t (λ _. Q)
  if_told None Q q = tt
  if_told (Some s) Q q = q

  -- ---- runs without new marks

  -- calls that keep what the store has, and marks that name no more than that
  named_now : (t u : Option Story) (s : S) (a more : List Named) → GoesOn t u → Always (count t) u (side.Stands s) → IfSome t (λ _. Between (count t) (side.number s) more)
      → IfSome u (λ _. AreBehind (count u) more) → Runs side t u s [] a (a ++ more)
  named_now None None s a more on always names behind = record {
    more = more;
    marks = refl;
    on = on;
    claim = since_none 0 (Claim side s [] more);
    names = tt;
    behind = behind;
  }
  named_now None (Some u) s a more on always names behind = absurd on
  named_now (Some t) u s a more on always names behind = record {
    more = more;
    marks = refl;
    on = on;
    claim = since_map (count (Some t)) u (λ n image. side.Stands s image) (Claim side s [] more)
        (λ n image le ge stands. claim_now s [] more n image (named_low (side.number s) n (count (Some t)) (side.number s) more (omega arith) names) stands) always;
    names = record { most = side.number s; risen = omega arith; between = names; reached = λ now e. reached_same s now e };
    behind = behind;
  }

  pub runs_kept : (t u : Option Story) (s : S) (a : List Named) → GoesOn t u → Always (count t) u (side.Stands s) → Runs side t u s [] a a
  runs_kept t u s a on always =
      subst (λ (b : List Named). Runs side t u s [] a b) (append-nil a) (named_now t u s a [] on always (if_told t (Unit {0}) tt) (if_told u (Unit {0}) tt))

  pub runs_none : (t : Option Story) (s : S) (a : List Named) → Each t (side.Stands s) → Runs side t t s [] a a
  runs_none t s a each = runs_kept t t s a (on_refl t) (since_start t (λ n image. side.Stands s image) each)

  idle_between : (t : Option Story) (s : S) (more : List Named) → IfSome t (λ _. NameNow (count t) (side.number s) more) → IfSome t (λ _. Between (count t) (side.number s) more)
  idle_between None s more names = tt
  idle_between (Some t) s more names = now_between (count (Some t)) (side.number s) more names

  idle_behind : (t : Option Story) (s : S) (more : List Named) → IfSome t (λ _. NameNow (count t) (side.number s) more) → IfSome t (λ _. AreBehind (count t) more)
  idle_behind None s more names = tt
  idle_behind (Some t) s more names = now_behind (count (Some t)) (side.number s) more names

  pub runs_idle : (t : Option Story) (s : S) (a more : List Named) → Each t (side.Stands s) → IfSome t (λ _. NameNow (count t) (side.number s) more)
      → Runs side t t s [] a (a ++ more)
  runs_idle t s a more each names = named_now t t s a more (on_refl t) (since_start t (λ n image. side.Stands s image) each) (idle_between t s more names) (idle_behind t s more names)

  pub runs_untold : (s : S) (xs : List X) (a more : List Named) → Runs side None None s xs a (a ++ more)
  runs_untold s xs a more = record { more = more; marks = refl; on = tt; claim = since_none 0 (Claim side s xs more); names = tt; behind = tt }

  -- ---- one commit

  pub runs_failed : (t u : Option Story) (s now : S) (x : X) (a : List Named) → side.step x s ≡ Some now → side.number s ≤ side.number now → GoesOn t u
      → Always (count t) u (λ image. side.Stands s image ⊎ side.Stands now image) → Runs side t u s (x ∷ []) a a
  runs_failed t u s now x a made le on always = record {
    more = [];
    marks = sym (append-nil a);
    on = on;
    claim = since_map (count t) u (λ n image. side.Stands s image ⊎ side.Stands now image) (Claim side s (x ∷ []) []) (λ n image le' ge either. at n image either) always;
    names = if_told t (NamesReached side (count t) s (x ∷ []) [])
        (record { most = side.number now; risen = le; between = tt; reached = λ (after : S) e. reached_one s now after x made e });
    behind = if_told u (Unit {0}) tt;
  }
    where
      at : (n : ℕ) (image : Image) → side.Stands s image ⊎ side.Stands now image → Claim side s (x ∷ []) [] n image
      at n image (inl old) = claim_now s (x ∷ []) [] n image (omega arith) old
      at n image (inr new) = claim_behind s now x [] n image made le new

  pub runs_committed : (t u : Option Story) (s now : S) (x : X) (a : List Named) (m : Named) → side.step x s ≡ Some now → side.number s ≤ side.number now
      → GoesOn t u → Always (count t) u (λ image. side.Stands s image ⊎ side.Stands now image) → Each u (side.Stands now)
      → IfSome u (λ _. m.calls ≡ count u) → m.number ≡ side.number now → Runs side t u s (x ∷ []) a (a ++ m ∷ [])
  runs_committed None None s now x a m made le on always each calls number = runs_untold s (x ∷ []) a (m ∷ [])
  runs_committed None (Some u) s now x a m made le on always each calls number = absurd on
  runs_committed (Some t) None s now x a m made le on always each calls number = absurd on
  runs_committed (Some t) (Some u) s now x a m made le on always each calls number = record {
    more = m ∷ [];
    marks = refl;
    on = on;
    claim = since_map (count (Some t)) (Some u) (λ n image. (side.Stands s image ⊎ side.Stands now image) × (count (Some u) ≤ n → side.Stands now image)) (Claim side s (x ∷ []) (m ∷ []))
        (λ n image le' ge h. at n image h (cases_lt n (count (Some u))))
        (since_last (count (Some t)) (Some u) (λ image. side.Stands s image ⊎ side.Stands now image) (side.Stands now) always each);
    names = record { most = side.number now; risen = le; between = between; reached = λ (after : S) e. reached_one s now after x made e };
    behind = (omega (arith, calls), tt);
  }
    where
      between : Between (count (Some t)) (side.number now) (m ∷ [])
      between = (omega (arith, calls, on_count (Some t) (Some u) on), (omega (arith, number), tt))

      early : (n : ℕ) → n < count (Some u) → named (side.number s) (m ∷ []) n ≤ side.number s
      early n lt = let e : nat_le m.calls n ≡ false = lt-leb m.calls n (omega (arith, calls)) in rw e (omega arith)

      low : (n : ℕ) → named (side.number s) (m ∷ []) n ≤ side.number now
      low n = named_low (side.number s) n (count (Some t)) (side.number now) (m ∷ []) le between

      at : (n : ℕ) (image : Image) → (side.Stands s image ⊎ side.Stands now image) × (count (Some u) ≤ n → side.Stands now image) → (n < count (Some u)) ⊎ (count (Some u) ≤ n)
          → Claim side s (x ∷ []) (m ∷ []) n image
      at n image h (inr last) = claim_behind s now x (m ∷ []) n image made (low n) (h.1 last)
      at n image h (inl before) = by_part h.0
        where
          by_part : side.Stands s image ⊎ side.Stands now image → Claim side s (x ∷ []) (m ∷ []) n image
          by_part (inl old) = claim_now s (x ∷ []) (m ∷ []) n image (early n before) old
          by_part (inr new) = claim_behind s now x (m ∷ []) n image made (low n) new

  -- ---- one run behind another

  module _ (s : S) (xs ys : List X) (more later : List Named) (n : ℕ) (image : Image) where
    claim_front : (calls most : ℕ) → n < calls → Between calls most later → Claim side s xs more n image → Claim side s (xs ++ ys) (more ++ later) n image
    claim_front calls most lt between c = record {
      first = c.first;
      within = omega (arith, c.within, length-append xs ys);
      now = c.now;
      after = subst (λ (l : List X). behind_steps side l s ≡ Some c.now) (sym (take-append-le c.first xs ys c.within)) c.after;
      stands = c.stands;
      holds = omega (arith, c.holds, later_name_nothing (side.number s) n calls most more later lt between);
    }

    claim_back : (mid : S) → behind_steps side xs s ≡ Some mid → (calls most : ℕ) → side.number s ≤ most → Between calls most more → most ≤ side.number mid
        → Claim side mid ys later n image → Claim side s (xs ++ ys) (more ++ later) n image
    claim_back mid made calls most risen between reached c = record {
      first = length xs + c.first;
      within = omega (arith, c.within, length-append xs ys);
      now = c.now;
      after = ap (λ (l : List X). behind_steps side l s) (take_past xs ys c.first c.within) ∙ steps_behind side xs (take c.first ys) s mid made ∙ c.after;
      stands = c.stands;
      holds = omega (
        arith,
        c.holds,
        risen,
        reached,
        named_late (side.number s) (side.number mid) n more later (omega (arith, risen, reached)),
        named_low (side.number s) n calls most more risen between,
        named_least (side.number mid) n later,
      );
    }

  -- names of two runs
  names_join : (calls calls' : ℕ) (s mid : S) (xs ys : List X) (more later : List Named) → calls ≤ calls' → behind_steps side xs s ≡ Some mid
      → NamesReached side calls s xs more → NamesReached side calls' mid ys later → NamesReached side calls s (xs ++ ys) (more ++ later)
  names_join calls calls' s mid xs ys more later le made p q = record {
    most = q.most;
    risen = omega (arith, p.risen, p.reached mid made, q.risen);
    between = between_append calls calls' p.most q.most more later le (omega (arith, p.reached mid made, q.risen)) p.between q.between;
    reached = λ now e. q.reached now (sym (steps_behind side xs ys s mid made) ∙ e);
  }

  pub runs_join : (t u v : Option Story) (s mid : S) (xs ys : List X) (a b c : List Named) → Runs side t u s xs a b → behind_steps side xs s ≡ Some mid
      → Runs side u v mid ys b c → Runs side t v s (xs ++ ys) a c
  runs_join t u v s mid xs ys a b c p made q = record {
    more = p.more ++ q.more;
    marks = q.marks ∙ ap (λ (l : List Named). l ++ q.more) p.marks ∙ append_assoc a p.more q.more;
    on = on_trans t u v p.on q.on;
    claim = claim t u v p.on q.on p.claim q.claim p.names q.names;
    names = names t u p.on p.names q.names;
    behind = behind u v q.on p.behind q.behind;
  }
    where
      claim : (t u v : Option Story) → GoesOn t u → GoesOn u v → Since (count t) u (Claim side s xs p.more) → Since (count u) v (Claim side mid ys q.more)
          → IfSome t (λ _. NamesReached side (count t) s xs p.more) → IfSome u (λ _. NamesReached side (count u) mid ys q.more)
          → Since (count t) v (Claim side s (xs ++ ys) (p.more ++ q.more))
      claim None None None on on' front back low high = since_none 0 (Claim side s (xs ++ ys) (p.more ++ q.more))
      claim None None (Some v) on on' front back low high = absurd on'
      claim None (Some u) v on on' front back low high = absurd on
      claim (Some t) None v on on' front back low high = absurd on
      claim (Some t) (Some u) v on on' front back low high =
          since_joined (count (Some t)) (Some u) v (Claim side s xs p.more) (Claim side mid ys q.more) (Claim side s (xs ++ ys) (p.more ++ q.more))
          (on_count (Some t) (Some u) on) on'
          (λ n image lt c. claim_front s xs ys p.more q.more n image (count (Some u)) high.most lt high.between c)
          (λ n image ge c. claim_back s xs ys p.more q.more n image mid made (count (Some t)) low.most low.risen low.between (low.reached mid made) c) front back

      names : (t u : Option Story) → GoesOn t u → IfSome t (λ _. NamesReached side (count t) s xs p.more) → IfSome u (λ _. NamesReached side (count u) mid ys q.more)
          → IfSome t (λ _. NamesReached side (count t) s (xs ++ ys) (p.more ++ q.more))
      names None u on low high = tt
      names (Some t) None on low high = absurd on
      names (Some t) (Some u) on low high = names_join (count (Some t)) (count (Some u)) s mid xs ys p.more q.more (on_count (Some t) (Some u) on) made low high

      behind : (u v : Option Story) → GoesOn u v → IfSome u (λ _. AreBehind (count u) p.more) → IfSome v (λ _. AreBehind (count v) q.more)
          → IfSome v (λ _. AreBehind (count v) (p.more ++ q.more))
      behind None None on first rest = tt
      behind None (Some v) on first rest = absurd on
      behind (Some u) None on first rest = absurd on
      behind (Some u) (Some v) on first rest =
          behind_append (count (Some v)) p.more q.more (behind_later (count (Some u)) (count (Some v)) p.more (on_count (Some u) (Some v) on) first) rest

  pub runs_rest : (t u : Option Story) (s now : S) (xs : List X) (a b more : List Named) → Runs side t u s xs a b → behind_steps side xs s ≡ Some now
      → Each u (side.Stands now) → IfSome u (λ _. NameNow (count u) (side.number now) more) → Runs side t u s xs a (b ++ more)
  runs_rest t u s now xs a b more p made each names =
      subst (λ (l : List X). Runs side t u s l a (b ++ more)) (append-nil xs)
      (runs_join t u u s now xs [] a b (b ++ more) p made (runs_idle u now b more each names))

  -- ---- more steps

  claim_more : (s : S) (xs ys : List X) (more : List Named) (n : ℕ) (image : Image) → Claim side s xs more n image → Claim side s (xs ++ ys) more n image
  claim_more s xs ys more n image c = record {
    first = c.first;
    within = omega (arith, c.within, length-append xs ys);
    now = c.now;
    after = subst (λ (l : List X). behind_steps side l s ≡ Some c.now) (sym (take-append-le c.first xs ys c.within)) c.after;
    stands = c.stands;
    holds = c.holds;
  }

  pub runs_more : (t u : Option Story) (s : S) (xs ys : List X) (a b : List Named) → Runs side t u s xs a b
      → ((mid now : S) → behind_steps side xs s ≡ Some mid → behind_steps side ys mid ≡ Some now → side.number mid ≤ side.number now)
      → Runs side t u s (xs ++ ys) a b
  runs_more t u s xs ys a b p rises = record {
    more = p.more;
    marks = p.marks;
    on = p.on;
    claim = since_map (count t) u (Claim side s xs p.more) (Claim side s (xs ++ ys) p.more) (λ n image le ge c. claim_more s xs ys p.more n image c) p.claim;
    names = names t p.names;
    behind = p.behind;
  }
    where
      names : (t : Option Story) → IfSome t (λ _. NamesReached side (count t) s xs p.more) → IfSome t (λ _. NamesReached side (count t) s (xs ++ ys) p.more)
      names None low = tt
      names (Some t) low = record {
        most = low.most;
        risen = low.risen;
        between = low.between;
        reached = λ now e.
            let part = steps_part side xs ys s now e in
            omega (arith, low.reached part.0 part.1.0, rises part.0 now part.1.0 part.1.1);
      }

  -- ---- whole runs

  -- the only image of a settled disk is what is read
  settled : (t : Option Story) (s : S) → IsSettled t → IfSome t (λ _. side.Stands s (seen t)) → Each t (side.Stands s)
  settled t s only stands image left =
      let same : seen t ≡ image = sym (λ i f. only f (image f) (left f) i) in
      subst (side.Stands s) same (by_left t 0 (image 0) (side.Stands s (seen t)) stands (left 0))

  pub lasts_begins : (t : Option Story) (s : S) → IsSettled t → IfSome t (λ _. side.Stands s (seen t)) → Lasts side t t s [] []
  unfolding Lasts
  lasts_begins t s only stands = runs_none t s [] (settled t s only stands)

  pub lasts_goes_on : (t u v : Option Story) (s mid : S) (xs ys : List X) (a b : List Named) → Lasts side t u s xs a → behind_steps side xs s ≡ Some mid
      → Runs side u v mid ys a b → Lasts side t v s (xs ++ ys) b
  unfolding Lasts
  lasts_goes_on t u v s mid xs ys a b p made q = runs_join t u v s mid xs ys [] a b p made q

  pub lasts_rests : (t u : Option Story) (s now : S) (xs : List X) (a more : List Named) → Lasts side t u s xs a → behind_steps side xs s ≡ Some now
      → Each u (side.Stands now) → IfSome u (λ _. NameNow (count u) (side.number now) more) → Lasts side t u s xs (a ++ more)
  unfolding Lasts
  lasts_rests t u s now xs a more p made each names = runs_rest t u s now xs [] a more p made each names

  pub lasts_ends : (t u : Option Story) (s : S) (xs : List X) (marks : List Named) → Lasts side t u s xs marks → Since (count t) u (Claim side s xs marks)
  unfolding Lasts
  lasts_ends t u s xs marks p = subst (λ (l : List Named). Since (count t) u (Claim side s xs l)) (sym p.marks) p.claim

  pub lasts_behind : (t u : Option Story) (s : S) (xs : List X) (marks : List Named) → Lasts side t u s xs marks → IfSome u (λ _. AreBehind (count u) marks)
  unfolding Lasts
  lasts_behind t u s xs marks p = subst (λ (l : List Named). IfSome u (λ _. AreBehind (count u) l)) (sym p.marks) p.behind
