-- A replica's steps, what it serves, and both disks of a run.
use Rattle.std.proofs.Common.{◌≡◌, ℕ, ◌+◌, ◌^◌, ◌<◌, ◌≤◌, Bool, true, false, eqb, leb, ltb, List, [], ◌∷◌, ◌++◌, length, map, take, drop, Option, Some, None, Ok, refl, sym, ◌∙◌, ap, subst, arith, append-nil}
use Rattle.std.specs.Prelude.{◌&&◌, IfSome}
use Rattle.std.specs.Option.{option_map, option_and_then}
use Rattle.std.proofs.lemmas.Bool.{eqb-true, leb-true}
use Rattle.std.proofs.lemmas.List.{map-append, take-append-drop}
use Rattle.answer_text.specs.declared.report.Mark.{Mark}
use Rattle.disk_model.specs.Story.{Image, Story, count}
use Rattle.disk_model.specs.Moments.{Each, GoesOn}
use Rattle.disk_model.proofs.Moments.{since_map, since_joined, on_count}
use Rattle.session_model.specs.log_entries.declared.entries.Entry.{Entry}
use Rattle.session_model.specs.Machine.{Whole}
use Rattle.store_model.specs.declared.record.Kind.TheVariants.{Replica}
use Rattle.store_model.specs.declared.record.Head.{Head}
use Rattle.store_model.specs.declared.record.Record.{Record}
use Rattle.store_model.specs.declared.record.Record.TheVariants.{Transaction, Definition, LogStart, TransactionApplied, DefinitionApplied, PlaceMoved}
use Rattle.store_model.specs.Held.{Held, most_committed, latest_end, is_next_commit, committed, begins_log, log_begun, next_applied, carried_out, changed, defined_by, where_so, applied}
use Rattle.store_model.specs.Stores.{held_by}
use Rattle.durable_runs.specs.Marks.{Named, named, NameNow, source_mark, replica_mark, served_mark}
use Rattle.durable_runs.specs.Runs.{behind_steps, Claim, Runs}
use Rattle.durable_runs.specs.Sources.{Stored, SourceRuns, source_side}
use Rattle.durable_runs.specs.Replicas.{replica_side, ReplicaRuns, RunsBoth, Served, ReplicaImage}
use Rattle.durable_runs.specs.Laws.{ReplicasLast}
use Rattle.durable_runs.proofs.Naming.{named_rises}
use Rattle.durable_runs.proofs.States.{same_stands}
use Rattle.durable_runs.proofs.Steps.{some_same, steps_part}
use Rattle.durable_runs.proofs.Joining.{runs_idle, runs_join, lasts_ends}

-- ---- numbers

abbrev Rises : ℕ → ℕ → Type 0
Rises before now = (before ≤ now) × (now < 2 ^ 64)

so : {A : Type 0} (b : Bool) (made : Option A) (x : A) → where_so b made ≡ Some x → (b ≡ true) × (made ≡ Some x)
so true made x is = (refl, is)
so false made x is = cc

made_by : {A B : Type 0} (f : A → B) (made : Option A) (x : B) → option_map f made ≡ Some x → (a : A) × (x ≡ f a)
made_by f None x is = cc
made_by f (Some a) x is = (a, sym (some_same (f a) x is))

firsts : (a b c d e : Bool) → (a && b && c && d && e) ≡ true → (a ≡ true) × (b ≡ true)
firsts true true c d e is = (refl, refl)
firsts true false c d e is = cc
firsts false b c d e is = cc

-- a commit of a source
next_rises : (head : Head) (held : Held) → is_next_commit head held ≡ true → Rises held.number head.number
next_rises head held is =
    let first = firsts (eqb head.number (held.number + 1)) (leb head.number most_committed) (ltb 0 head.log) (eqb head.log (length held.ends)) (leb head.pos latest_end) is in
    let e = eqb-true head.number (held.number + 1) first.0 in
    let le = leb-true head.number most_committed first.1 in
    (omega (arith, e), omega (arith, le))

carried_rises : (head : Head) (held : Held) → held.number < 2 ^ 64 → eqb head.number (next_applied held.number) ≡ true → Rises held.number head.number
carried_rises head held fits is = let e = eqb-true head.number (next_applied held.number) is in (omega (arith, e), omega (arith, e))

same_rises : (head : Head) (held : Held) → held.number < 2 ^ 64 → eqb head.number held.number ≡ true → Rises held.number head.number
same_rises head held fits is = let e = eqb-true head.number held.number is in (omega (arith, e), omega (arith, e))

one_rises : (r : Record) (held now : Held) → held.number < 2 ^ 64 → applied r held ≡ Some now → Rises held.number now.number
unfolding applied
one_rises (Transaction head cs) held now fits is =
    let parts = so (is_next_commit head held) (option_map (committed head held) (changed cs held.base)) now is in
    let made = made_by (committed head held) (changed cs held.base) now parts.1 in
    subst (λ (h : Held). Rises held.number h.number) (sym made.1) (next_rises head held parts.0)
one_rises (Definition head text) held now fits is =
    let parts = so (is_next_commit head held) (option_map (committed head held) (defined_by text held.base)) now is in
    let made = made_by (committed head held) (defined_by text held.base) now parts.1 in
    subst (λ (h : Held). Rises held.number h.number) (sym made.1) (next_rises head held parts.0)
one_rises (LogStart head old) held now fits is =
    let parts = so (begins_log head old held) (Some (log_begun head old held)) now is in
    let same : log_begun head old held ≡ now = some_same (log_begun head old held) now parts.1 in
    subst (λ (h : Held). Rises held.number h.number) same (omega arith, fits)
one_rises (TransactionApplied head cs) held now fits is =
    let parts = so (eqb head.number (next_applied held.number)) (option_map (carried_out head held) (changed cs held.base)) now is in
    let made = made_by (carried_out head held) (changed cs held.base) now parts.1 in
    subst (λ (h : Held). Rises held.number h.number) (sym made.1) (carried_rises head held fits parts.0)
one_rises (DefinitionApplied head text) held now fits is =
    let parts = so (eqb head.number (next_applied held.number)) (option_map (carried_out head held) (defined_by text held.base)) now is in
    let made = made_by (carried_out head held) (defined_by text held.base) now parts.1 in
    subst (λ (h : Held). Rises held.number h.number) (sym made.1) (carried_rises head held fits parts.0)
one_rises (PlaceMoved head) held now fits is =
    let parts = so (eqb head.number held.number) (Some (carried_out head held held.base)) now is in
    let same : carried_out head held held.base ≡ now = some_same (carried_out head held held.base) now parts.1 in
    subst (λ (h : Held). Rises held.number h.number) same (same_rises head held fits parts.0)

stepped : (first : Option Held) (rs : List Record) (now : Held) → option_and_then (behind_steps replica_side rs) first ≡ Some now
    → (mid : Held) × ((first ≡ Some mid) × (behind_steps replica_side rs mid ≡ Some now))
stepped None rs now is = cc
stepped (Some mid) rs now is = (mid, (refl, is))

pub replicas_rise : (rs : List Record) (held now : Held) → held.number < 2 ^ 64 → behind_steps replica_side rs held ≡ Some now → Rises held.number now.number
replicas_rise [] held now fits is = let same : held ≡ now = some_same held now is in subst (λ (h : Held). Rises held.number h.number) same (omega arith, fits)
replicas_rise (r ∷ rs) held now fits is =
    let part = stepped (applied r held) rs now is in
    let one = one_rises r held part.0 fits part.1.0 in
    let rest = replicas_rise rs part.0 now one.1 part.1.1 in
    (omega (arith, one.0, rest.0), rest.1)

-- ---- what was served

-- the first of records lead to a number that is no greater
prefix_low : (rs : List Record) (k : ℕ) (held now last : Held) → held.number < 2 ^ 64 → behind_steps replica_side (take k rs) held ≡ Some now
    → behind_steps replica_side rs held ≡ Some last → now.number ≤ last.number
prefix_low rs k held now last fits first all =
    let whole : behind_steps replica_side (take k rs ++ drop k rs) held ≡ Some last =
    ap (λ (l : List Record). behind_steps replica_side l held) (take-append-drop k rs) ∙ all in
    let part = steps_part replica_side (take k rs) (drop k rs) held last whole in
    let same : part.0 ≡ now = some_same part.0 now (sym part.1.0 ∙ first) in
    let fits' : part.0.number < 2 ^ 64 = (replicas_rise (take k rs) held part.0 fits part.1.0).1 in
    omega (arith, ap (λ (h : Held). h.number) same, (replicas_rise (drop k rs) part.0 last fits' part.1.1).0)

pub served_runs : (t u : Option Story) (start : ℕ) (held last : Held) (records : List Record) (a b : List Mark) → held.number < 2 ^ 64 → ReplicaRuns t u held records a b
    → behind_steps replica_side records held ≡ Some last → last.number ≤ named start (map served_mark b) (count t) → Served start (count t) u b
served_runs t u start held last records a b fits runs all low =
    since_map (count t) u (Claim replica_side held records runs.more) (λ n image. (now : Held) → held_by Replica image ≡ Ok now → now.number ≤ named start (map served_mark b) n)
    (λ n image le ge c now stands. at n le c.now c.first now c.after (same_stands image now c.now stands c.stands)) runs.claim
  where
    at : (n : ℕ) → count t ≤ n → (reached : Held) (first : ℕ) (now : Held) → behind_steps replica_side (take first records) held ≡ Some reached → now.number ≡ reached.number
        → now.number ≤ named start (map served_mark b) n
    at n le reached first now after same =
        let rises : named start (map served_mark b) (count t) ≤ named start (map served_mark b) n =
        subst (λ (l : List Named). named start (map served_mark b) (count t) ≤ named start l n) (append-nil (map served_mark b))
        (named_rises start (count t) n (map served_mark b) [] le) in
        omega (arith, same, prefix_low records first held reached last fits after all, low, rises)

more_named : (start n : ℕ) (a more : List Mark) → named start (map served_mark a) n ≤ named start (map served_mark (a ++ more)) n
more_named start n a more =
    subst (λ (l : List Named). named start (map served_mark a) n ≤ named start l n) (sym (map-append served_mark a more))
    (named_rises start n n (map served_mark a) (map served_mark more) (omega arith))

pub served_more : (start calls : ℕ) (t : Option Story) (a more : List Mark) → Served start calls t a → Served start calls t (a ++ more)
served_more start calls t a more served =
    since_map calls t (λ n image. (now : Held) → held_by Replica image ≡ Ok now → now.number ≤ named start (map served_mark a) n)
    (λ n image. (now : Held) → held_by Replica image ≡ Ok now → now.number ≤ named start (map served_mark (a ++ more)) n)
    (λ n image le ge low now stands. omega (arith, low now stands, more_named start n a more)) served

pub served_join : (start : ℕ) (t u v : Option Story) (a more : List Mark) → GoesOn t u → GoesOn u v → Served start (count t) u a → Served start (count u) v (a ++ more)
    → Served start (count t) v (a ++ more)
served_join start t u v a more on on' front back =
    since_joined (count t) u v (λ n image. (now : Held) → held_by Replica image ≡ Ok now → now.number ≤ named start (map served_mark a) n)
    (λ n image. (now : Held) → held_by Replica image ≡ Ok now → now.number ≤ named start (map served_mark (a ++ more)) n)
    (λ n image. (now : Held) → held_by Replica image ≡ Ok now → now.number ≤ named start (map served_mark (a ++ more)) n)
    (on_count t u on) on' (λ n image lt low now stands. omega (arith, low now stands, more_named start n a more)) (λ n image ge low. low) front back

-- ---- whole runs

pub replica_images : (follows : List (Entry Whole) → Type 0) → ReplicasLast follows
replica_images follows t u held rs es number writer committed marks lasts served carried =
    let claim = lasts_ends replica_side t u held rs (map replica_mark marks) lasts in
    record {
      after = λ n ge le image left. image_is n image (claim.after n ge le image left) (served.after n ge le image left);
      during = λ n ge lt image left. image_is n image (claim.during n ge lt image left) (served.during n ge lt image left);
    }
  where
    image_is : (n : ℕ) (image : Image) → Claim replica_side held rs (map replica_mark marks) n image
        → ((now : Held) → held_by Replica image ≡ Ok now → now.number ≤ named committed (map served_mark marks) n)
        → ReplicaImage follows held es number writer committed marks n image
    image_is n image c low =
        record { now = c.now; stands = c.stands; carried = carried c.first c.now c.after; holds = c.holds; served = low c.now c.stands }

-- ---- both disks

pub both_join : (s s' s'' r r' r'' : Option Story) (from from' : Stored) (held held' : Held) (es es' : List (Entry Whole)) (rs rs' : List Record) (a b c : List Mark)
    → RunsBoth s s' from es r r' held rs a b → behind_steps source_side es from ≡ Some from' → behind_steps replica_side rs held ≡ Some held'
    → RunsBoth s' s'' from' es' r' r'' held' rs' b c → RunsBoth s s'' from (es ++ es') r r'' held (rs ++ rs') a c
both_join s s' s'' r r' r'' from from' held held' es es' rs rs' a b c p made made' q = record {
  source = runs_join source_side s s' s'' from from' es es' (map source_mark a) (map source_mark b) (map source_mark c) p.source made q.source;
  replica = runs_join replica_side r r' r'' held held' rs rs' (map replica_mark a) (map replica_mark b) (map replica_mark c) p.replica made' q.replica;
}

pub both_of_source : (s s' r : Option Story) (from : Stored) (held : Held) (es : List (Entry Whole)) (a more : List Mark) → SourceRuns s s' from es a (a ++ more)
    → Each r (replica_side.Stands held) → IfSome r (λ _. NameNow (count r) held.number (map replica_mark more)) → RunsBoth s s' from es r r held [] a (a ++ more)
both_of_source s s' r from held es a more source each names = record {
  source = source;
  replica = subst (λ (l : List Named). Runs replica_side r r held [] (map replica_mark a) l) (sym (map-append replica_mark a more))
      (runs_idle replica_side r held (map replica_mark a) (map replica_mark more) each names);
}

pub both_of_replica : (s r r' : Option Story) (from : Stored) (held : Held) (rs : List Record) (a more : List Mark) → ReplicaRuns r r' held rs a (a ++ more)
    → Each s (source_side.Stands from) → IfSome s (λ _. NameNow (count s) from.held.number (map source_mark more)) → RunsBoth s s from [] r r' held rs a (a ++ more)
both_of_replica s r r' from held rs a more replica each names = record {
  source = subst (λ (l : List Named). Runs source_side s s from [] (map source_mark a) l) (sym (map-append source_mark a more))
      (runs_idle source_side s from (map source_mark a) (map source_mark more) each names);
  replica = replica;
}
