-- Runs behind each of whose steps a replica holds one of some states.
use Rattle.std.proofs.Common.{◌≡◌, ◌⊎◌, inl, inr, ℕ, zero, suc, ◌-◌, ◌<◌, ◌≤◌, List, [], ◌∷◌, ◌++◌, length, map, take, Option, Some, Result, Ok, refl, sym, ◌∙◌, ap, subst, arith, append-nil}
use Rattle.std.specs.Prelude.{IfSome}
use Rattle.std.specs.Option.{option_and_then}
use Rattle.std.proofs.lemmas.Bool.{cases_lt}
use Rattle.std.proofs.lemmas.List.{map-append, take_all, take-append-le}
use Rattle.answer_text.specs.declared.report.Mark.{Mark}
use Rattle.disk_model.specs.Story.{Image, Story, count, seen}
use Rattle.disk_model.specs.Moments.{Each, Since, Always, GoesOn, IsSettled}
use Rattle.disk_model.proofs.Moments.{since_map}
use Rattle.store_model.specs.declared.record.Kind.TheVariants.{Replica}
use Rattle.store_model.specs.declared.record.Record.{Record}
use Rattle.store_model.specs.Held.{Held, applied}
use Rattle.store_model.specs.Stores.{Spot, held_by}
use Rattle.durable_runs.specs.Marks.{Named, named, AreBehind, NameNow, replica_mark, served_mark}
use Rattle.durable_runs.specs.Runs.{behind_steps, Claim, Runs, Lasts}
use Rattle.durable_runs.specs.Replicas.{replica_side, ReplicaStands, ReplicaRuns, AreStates, Carries, CarriesTo, Served, StateImage}
use Rattle.durable_runs.proofs.Naming.{named_rises}
use Rattle.durable_runs.proofs.Steps.{some_same, steps_behind}
use Rattle.durable_runs.proofs.Joining.{runs_kept, runs_idle, runs_join, lasts_begins, lasts_behind, lasts_ends}

take_beyond : (front back : List Record) (k : ℕ) → length front ≤ k → take k (front ++ back) ≡ front ++ take (k - length front) back
take_beyond [] back k le = let e : k ≡ k - 0 = omega arith in ap (λ (n : ℕ). take n back) e
take_beyond (r ∷ front) back zero le = absurd (omega (arith, le))
take_beyond (r ∷ front) back (suc k) le =
    let e : k - length front ≡ suc k - suc (length front) = omega arith in
    ap (λ (l : List Record). r ∷ l) (take_beyond front back k (omega (arith, le)) ∙ ap (λ (n : ℕ). front ++ take n back) e)

-- an image holds one number
pub same_stands : (image : Image) (a b : Held) → held_by Replica image ≡ Ok a → held_by Replica image ≡ Ok b → a.number ≡ b.number
same_stands image a b p q = let e : Path (Result Held Spot) (Ok a) (Ok b) = sym p ∙ q in ap (λ (h : Held). h.number) (same a b e)
  where
    same : (a b : Held) → Path (Result Held Spot) (Ok a) (Ok b) → a ≡ b
    same a b is = cc

none_taken : (k : ℕ) → Path (List Record) (take k []) []
none_taken zero = refl
none_taken (suc k) = refl

module _ (P : Held → Type 0) where
  -- ---- what is held behind steps

  states_none : (held : Held) → P held → AreStates P held []
  states_none held state k now is =
      subst P (some_same held now (ap (λ (l : List Record). behind_steps replica_side l held) (sym (none_taken k)) ∙ is)) state

  states_one : (held now : Held) (r : Record) → P held → P now → applied r held ≡ Some now → AreStates P held (r ∷ [])
  states_one held now r state state' made zero at is = subst P (some_same held at is) state
  states_one held now r state state' made (suc k) at is =
      subst P
      (some_same now at
      (sym (ap (option_and_then (behind_steps replica_side [])) made)
      ∙ ap (λ (l : List Record). behind_steps replica_side (r ∷ l) held) (sym (none_taken k)) ∙ is)) state'

  pub states_join : (held mid : Held) (front back : List Record) → AreStates P held front → behind_steps replica_side front held ≡ Some mid → AreStates P mid back
      → AreStates P held (front ++ back)
  states_join held mid front back first made rest k now is = by_part (cases_lt k (length front))
    where
      by_part : (k < length front) ⊎ (length front ≤ k) → P now
      by_part (inl lt) = first k now (sym (ap (λ (l : List Record). behind_steps replica_side l held) (take-append-le k front back (omega arith))) ∙ is)
      by_part (inr ge) =
          rest (k - length front) now
          (sym (steps_behind replica_side front (take (k - length front) back) held mid made)
          ∙ sym (ap (λ (l : List Record). behind_steps replica_side l held) (take_beyond front back k ge)) ∙ is)

  -- ---- runs

  pub carries_first : (t u : Option Story) (held : Held) (a b : List Mark) → Carries P t u held a b → P held
  carries_first t u held a b c = c.states 0 held refl

  pub carries_last : (t u : Option Story) (held last : Held) (a b : List Mark) → CarriesTo P t u held last a b → P last
  carries_last t u held last a b c =
      let records = c.carries.records in
      c.carries.states (length records) last
      (ap (λ (l : List Record). behind_steps replica_side l held) (take_all (length records) records (omega arith)) ∙ c.reached)

  pub carries_none : (t u : Option Story) (held : Held) (a b : List Mark) → P held → ReplicaRuns t u held [] a b → CarriesTo P t u held held a b
  carries_none t u held a b state runs = record { carries = record { records = []; states = states_none held state; runs = runs }; reached = refl }

  pub carries_one : (t u : Option Story) (held now : Held) (r : Record) (a b : List Mark) → P held → P now → applied r held ≡ Some now → ReplicaRuns t u held (r ∷ []) a b
      → CarriesTo P t u held now a b
  carries_one t u held now r a b state state' made runs = record {
    carries = record { records = r ∷ []; states = states_one held now r state state' made; runs = runs };
    reached = ap (option_and_then (behind_steps replica_side [])) made;
  }

  pub carries_stays : (t u : Option Story) (held : Held) (a : List Mark) → P held → GoesOn t u → Always (count t) u (ReplicaStands held) → CarriesTo P t u held held a a
  carries_stays t u held a state on always = carries_none t u held a a state (runs_kept replica_side t u held (map replica_mark a) on always)

  pub carries_idle : (t : Option Story) (held : Held) (a more : List Mark) → P held → Each t (ReplicaStands held)
      → IfSome t (λ _. NameNow (count t) held.number (map replica_mark more)) → CarriesTo P t t held held a (a ++ more)
  carries_idle t held a more state each names =
      carries_none t t held a (a ++ more) state
      (subst (λ (l : List Named). Runs replica_side t t held [] (map replica_mark a) l) (sym (map-append replica_mark a more))
      (runs_idle replica_side t held (map replica_mark a) (map replica_mark more) each names))

  pub carries_behind : (t u v : Option Story) (held mid : Held) (a b c : List Mark) → CarriesTo P t u held mid a b → Carries P u v mid b c → Carries P t v held a c
  carries_behind t u v held mid a b c p q = record {
    records = p.carries.records ++ q.records;
    states = states_join held mid p.carries.records q.records p.carries.states p.reached q.states;
    runs = runs_join replica_side t u v held mid p.carries.records q.records (map replica_mark a) (map replica_mark b) (map replica_mark c) p.carries.runs p.reached q.runs;
  }

  pub carries_join : (t u v : Option Story) (held mid last : Held) (a b c : List Mark) → CarriesTo P t u held mid a b → CarriesTo P u v mid last b c → CarriesTo P t v held last a c
  unfolding carries_behind
  carries_join t u v held mid last a b c p q = record {
    carries = carries_behind t u v held mid a b c p q.carries;
    reached = steps_behind replica_side p.carries.records q.carries.records held mid p.reached ∙ q.reached;
  }

  -- ---- whole runs

  pub carries_begins : (t : Option Story) (held : Held) → IsSettled t → IfSome t (λ _. held_by Replica (seen t) ≡ Ok held) → P held → CarriesTo P t t held held [] []
  unfolding Lasts
  carries_begins t held settled stands state = carries_none t t held [] [] state (lasts_begins replica_side t held settled stands)

  image_is : (held : Held) (marks : List Mark) (rs : List Record) → AreStates P held rs → (n : ℕ) (image : Image) → Claim replica_side held rs (map replica_mark marks) n image
      → StateImage P held marks n image
  image_is held marks rs states n image c = record { now = c.now; stands = c.stands; state = states c.first c.now c.after; holds = c.holds }

  pub carries_images : (t u : Option Story) (held : Held) (marks : List Mark) → Carries P t u held [] marks → Since (count t) u (StateImage P held marks)
  unfolding Lasts
  carries_images t u held marks c =
      since_map (count t) u (Claim replica_side held c.records (map replica_mark marks)) (StateImage P held marks)
      (λ n image le ge claim. image_is held marks c.records c.states n image claim) (lasts_ends replica_side t u held c.records (map replica_mark marks) c.runs)

  -- no mark of it says more calls than the disk has had
  pub carries_marks : (t u : Option Story) (held : Held) (marks : List Mark) → Carries P t u held [] marks → IfSome u (λ _. AreBehind (count u) (map replica_mark marks))
  unfolding Lasts
  carries_marks t u held marks c = lasts_behind replica_side t u held c.records (map replica_mark marks) c.runs

  -- a run serves no more than its source had committed before, as the marks until its first call say, where no state has more
  pub states_served : (start : ℕ) (t u : Option Story) (held : Held) (a b : List Mark) → ((h : Held) → P h → h.number ≤ named start (map served_mark b) (count t))
      → Carries P t u held a b → Served start (count t) u b
  states_served start t u held a b low c =
      since_map (count t) u (Claim replica_side held c.records c.runs.more)
      (λ n image. (now : Held) → held_by Replica image ≡ Ok now → now.number ≤ named start (map served_mark b) n)
      (λ n image le ge claim now stands. at n le claim.now now (c.states claim.first claim.now claim.after) (same_stands image now claim.now stands claim.stands))
      c.runs.claim
    where
      at : (n : ℕ) → count t ≤ n → (reached now : Held) → P reached → now.number ≡ reached.number → now.number ≤ named start (map served_mark b) n
      at n le reached now state same =
          let rises : named start (map served_mark b) (count t) ≤ named start (map served_mark b) n =
          subst (λ (l : List Named). named start (map served_mark b) (count t) ≤ named start l n) (append-nil (map served_mark b))
          (named_rises start (count t) n (map served_mark b) [] le) in
          omega (arith, same, low reached state, rises)

-- ---- more states

module _ (P Q : Held → Type 0) where
  pub carries_widen : (t u : Option Story) (held : Held) (a b : List Mark) → ((h : Held) → P h → Q h) → Carries P t u held a b → Carries Q t u held a b
  carries_widen t u held a b wide c = record { records = c.records; states = λ k now is. wide now (c.states k now is); runs = c.runs }

  pub carries_to_widen : (t u : Option Story) (held last : Held) (a b : List Mark) → ((h : Held) → P h → Q h) → CarriesTo P t u held last a b → CarriesTo Q t u held last a b
  unfolding carries_widen
  carries_to_widen t u held last a b wide c = record { carries = carries_widen t u held a b wide c.carries; reached = c.reached }
