-- One record, staged and committed; and its mark.
use Rattle.std.proofs.Common.{◌≡◌, ℕ, ◌+◌, ◌-◌, ◌<◌, ◌≤◌, ◌^◌, min, Bool, cond, List, [], ◌∷◌, ◌++◌, length, map, take, set, Option, Some, None, Result, Ok, Err, refl, sym, ◌∙◌, ap, subst, arith, append-nil}
use Rattle.std.specs.Prelude.{IfSome, OnErr, OnOk, if◌then◌else◌}
use Rattle.std.specs.Option.{option_and_then}
use Rattle.std.proofs.lemmas.List.{map-append, length-append, take_at}
use Rattle.answer_text.specs.declared.report.Mark.{Mark}
use Rattle.disk_model.specs.Story.{Story, count, seen}
use Rattle.disk_model.specs.Moments.{Always}
use Rattle.disk_model.specs.Claims.{WorksOn}
use Rattle.disk_model.proofs.Laws.{if_all}
use Rattle.gate_journal.specs.declared.journal.Journal.{Journal}
use Rattle.gate_journal.specs.Journal.{HasStaged}
use Rattle.store_model.specs.declared.record.Kind.{Kind}
use Rattle.store_model.specs.declared.record.Kind.TheVariants.{Replica}
use Rattle.store_model.specs.declared.record.Record.{Record}
use Rattle.store_model.specs.declared.record.Record.TheVariants.{Transaction, Definition, LogStart, TransactionApplied, DefinitionApplied, PlaceMoved}
use Rattle.store_model.specs.Bodies.{IsRecord, body_of}
use Rattle.store_model.specs.Held.{Held, LogEnd, next_applied}
use Rattle.store_model.specs.Stores.{first_log, HasLogs}
use Rattle.commit_store.specs.declared.next.Next.{Next}
use Rattle.commit_store.specs.declared.next.Next.TheVariants.{Nothing, Committed, LogBegun, CarriedOut}
use Rattle.commit_store.specs.declared.prepared.Prepared.{Prepared}
use Rattle.commit_store.specs.declared.store.Store.{Store}
use Rattle.commit_store.specs.Reserved.{LogEnds}
use Rattle.commit_store.specs.Next.{HasRoom, next_of, passed, prepared_of}
use Rattle.commit_store.specs.Keeping.{Either, HasEnds, IsReady, Keeps, LeadsOn, StandsFor}
use Rattle.durable_runs.specs.Marks.{Named, replica_mark}
use Rattle.durable_runs.specs.Runs.{CallsFit, Runs, behind_steps}
use Rattle.durable_runs.specs.Replicas.{ReplicaRuns, replica_side}
use Rattle.durable_runs.proofs.Joining.{runs_committed, runs_failed, runs_more}
use Rattle.store_replica.specs.Pushed.{ArePushed}
use Rattle.store_replica.specs.Writing.{CanKeep, IsCounted, IsOn, LeadsTo, StaysOn}
use Rattle.store_replica.proofs.Ends.{ends_stay}
use Rattle.store_replica.proofs.Standings.{each_stands, leads_of, no_call, one_rises, stays_of, stays_runs, stays_then}

-- what follows of two facts at Ok
pub ok_two : {A E : Type 0} (r : Result A E) {X Y Z : Type 0} → OnOk r X → OnOk r Y → (X → Y → Z) → OnOk r Z
ok_two (Ok a) x y f = f x y
ok_two (Err e) x y f = tt

-- ---- the readers

node_passed : (next : Next) (store : Store) → (passed next store).node ≡ store.node
node_passed Nothing store = refl
node_passed (Committed head) store = refl
node_passed (LogBegun old pos) store = refl
node_passed (CarriedOut head) store = refl

-- a replica's record begins no log, so that it needs no room
room_for : (r : Record) (ends : LogEnds) → IsRecord Replica r → HasRoom (next_of r) ends
room_for (Transaction head cs) ends form = absurd form
room_for (Definition head text) ends form = absurd form
room_for (LogStart head old) ends form = absurd form
room_for (TransactionApplied head cs) ends form = tt
room_for (DefinitionApplied head text) ends form = tt
room_for (PlaceMoved head) ends form = tt

none_there : (kind : Kind) (ends : List LogEnd) → kind ≡ Replica → HasEnds kind ends → ends ≡ []
none_there kind ends is own = subst (λ (k : Kind). HasEnds k ends) is own

-- ---- a record is taken over, staged and committed

module _ (t : Option Story) (before store : Store) (p : Prepared) (r : Record) (held now : Held) (can : CanKeep t before p r held now)
    (takes : (x : Record) → p ≡ prepared_of x → IsRecord before.node x → length (body_of x) < 2 ^ 32 → IsReady store x)
    (kept : (x : Option Story) (h : Held) → Keeps x before h → Keeps x store h) (same : store.node ≡ before.node) where
  pub ready : IsReady store r
  ready = takes r can.prepared (subst (λ (k : Kind). IsRecord k r) (sym can.on.node) can.form) can.fits

  pub taken : IsOn t store held
  taken = record { node = same ∙ can.on.node; keeps = kept t held can.on.keeps; fits = can.on.fits }

  pub room_is : (next : Next) (ends : LogEnds) → next ≡ store.next → HasRoom next ends
  room_is next ends is = subst (λ (n : Next). HasRoom n ends) (sym (is ∙ ready.next)) (room_for r ends can.form)

  module _ (u : Option Story) (works : WorksOn t u store.journal.file) (images : Always (count t) u (StandsFor store held)) where
    pub staged_stays : StaysOn t u held
    staged_stays = stays_of store taken.node t u held works.on images

    module _ (after : Store) (is : after ≡ store) (keeps : Keeps u store held) (staged : HasStaged u store.journal (body_of r)) where
      no_logs : now.ends ≡ []
      no_logs = ends_stay r held now can.form can.makes ∙ none_there store.node held.ends taken.node taken.keeps.holds.own

      pub leads_on : LeadsOn u after r held now
      leads_on = record {
        keeps = subst (λ (st : Store). Keeps u st held) (sym is) keeps;
        ready = subst (λ (st : Store). IsReady st r) (sym is) ready;
        staged = subst (λ (st : Store). HasStaged u st.journal (body_of r)) (sym is) staged;
        makes = can.makes;
        logs = if_all u (HasLogs first_log now.ends (seen u)) (subst (λ (ends : List LogEnd). HasLogs first_log ends (seen u)) (sym no_logs) refl);
      }

      after_node : after.node ≡ Replica
      after_node = ap (λ (st : Store). st.node) is ∙ taken.node

      module _ (v : Option Story) (works' : WorksOn u v after.journal.file) where
        pub all_leads : Always (count u) v (Either after held now) → LeadsTo t v held now
        all_leads either = stays_then t u v held now staged_stays (leads_of after after_node u v held now works'.on either)

        pub all_on : (last : Store) (journal : Journal) → Keeps v last now → last ≡ passed after.next (record after { journal = journal }) → IsOn v last now
        all_on last journal kept' passes = record {
          node = ap (λ (st : Store). st.node) passes ∙ node_passed after.next (record after { journal = journal }) ∙ after_node;
          keeps = kept';
          fits = (one_rises r held now can.on.fits can.makes).1;
        }

-- ---- its run

module _ (t : Option Story) (store : Store) (p : Prepared) (r : Record) (held now : Held) (can : CanKeep t store p r held now) where
  rises : held.number ≤ now.number
  rises = (one_rises r held now can.on.fits can.makes).0

  -- no disk was called
  pub no_run : (marks : List Mark) → ReplicaRuns t t held (r ∷ []) marks marks
  no_run marks =
      runs_more replica_side t t held [] (r ∷ []) (map replica_mark marks) (map replica_mark marks) (stays_runs t t held marks (no_call t store held can.on)) rise
    where
      some_same : {A : Type 0} (a b : A) → Some a ≡ Some b → a ≡ b
      some_same a b e = cc

      rise : (mid last : Held) → behind_steps replica_side [] held ≡ Some mid → behind_steps replica_side (r ∷ []) mid ≡ Some last → mid.number ≤ last.number
      rise mid last first is =
          let same : held ≡ mid = some_same held mid first in
          let made : behind_steps replica_side (r ∷ []) held ≡ Some now = ap (option_and_then (behind_steps replica_side [])) can.makes in
          let same' : now ≡ last = some_same now last (sym made ∙ ap (behind_steps replica_side (r ∷ [])) same ∙ is) in
          omega (arith, rises, ap (λ (h : Held). h.number) same, ap (λ (h : Held). h.number) same')

  module _ (u : Option Story) (leads : LeadsTo t u held now) where
    -- it was not kept, or it has no mark
    pub unmarked_run : (marks : List Mark) → ReplicaRuns t u held (r ∷ []) marks marks
    unmarked_run marks = runs_failed replica_side t u held now r (map replica_mark marks) can.makes rises leads.on leads.images

    -- its mark was pushed behind it
    pub marked_run : (store' : Store) (on : IsOn u store' now) (marks : List Mark) (m : Mark) → m.applied ≡ store'.number
        → IfSome u (λ (x : Story). m.rep_calls ≡ min (length x.calls) (2 ^ 64 - 1)) → CallsFit u → ReplicaRuns t u held (r ∷ []) marks (marks ++ m ∷ [])
    marked_run store' on marks m applies calls fits =
        subst (λ (l : List Named). Runs replica_side t u held (r ∷ []) (map replica_mark marks) l) (sym (map-append replica_mark marks (m ∷ [])))
        (runs_committed replica_side t u held now r (map replica_mark marks) (replica_mark m) can.makes rises leads.on leads.images (each_stands u store' now on)
        (called u calls fits) (applies ∙ on.keeps.holds.shows.number))
      where
        called : (u : Option Story) → IfSome u (λ (x : Story). m.rep_calls ≡ min (length x.calls) (2 ^ 64 - 1)) → CallsFit u → IfSome u (λ _. m.rep_calls ≡ count u)
        called None calls fits = tt
        called (Some x) calls fits = omega (arith, calls, fits)

-- ---- marks

pub runs_same : (t u : Option Story) (held : Held) (r : Record) (a b b' : List Mark) → b ≡ b' → ReplicaRuns t u held (r ∷ []) a b → ReplicaRuns t u held (r ∷ []) a b'
runs_same t u held r a b b' is runs = subst (λ (l : List Mark). ReplicaRuns t u held (r ∷ []) a l) is runs

-- the room for a mark is given back
pub given_back : (marks marks' : List Mark) (m : Mark) (at : ℕ) → at ≡ length marks → marks' ≡ marks ++ m ∷ [] → take at marks' ≡ marks
given_back marks marks' m at is pushed = ap (take at) pushed ∙ take_at marks (m ∷ []) at (sym is)

-- or the mark is set there
set_last : (marks : List Mark) (m mark : Mark) (at : ℕ) → at ≡ length marks → set (marks ++ m ∷ []) at mark ≡ marks ++ mark ∷ []
set_last [] m mark at is = ap (λ (n : ℕ). set (m ∷ []) n mark) is
set_last (x ∷ marks) m mark at is =
    ap (λ (n : ℕ). set (x ∷ (marks ++ m ∷ [])) n mark) is ∙ ap (λ (l : List Mark). x ∷ l) (set_last marks m mark (length marks) refl)

pub mark_set : (marks marks' : List Mark) (m mark : Mark) (at : ℕ) → at ≡ length marks → marks' ≡ marks ++ m ∷ [] → set marks' at mark ≡ marks ++ mark ∷ []
mark_set marks marks' m mark at is pushed = ap (λ (l : List Mark). set l at mark) pushed ∙ set_last marks m mark at is

pub set_there : (marks marks' : List Mark) (m : Mark) (at : ℕ) → at ≡ length marks → marks' ≡ marks ++ m ∷ [] → at < length marks'
set_there marks marks' m at is pushed = omega (arith, is, ap length pushed, length-append marks (m ∷ []))

pub none_pushed : (now : Mark) (before after : ℕ) (marks marks' : List Mark) → marks' ≡ marks → before ≡ after → ArePushed now before after marks marks'
none_pushed now before after marks marks' same is = record { more = []; marks = same ∙ sym (append-nil marks); named = tt; number = is }

pub one_pushed : (now m : Mark) (before after : ℕ) (marks marks' : List Mark) → marks' ≡ marks ++ m ∷ [] → m ≡ record now { applied = after; rep_calls = m.rep_calls } → after ≡ next_applied before
    → ArePushed now before after marks marks'
one_pushed now m before after marks marks' pushed is next = record {
  more = m ∷ [];
  marks = pushed;
  named = (is ∙ ap (λ (n : ℕ). record now { applied = n; rep_calls = m.rep_calls }) next, tt);
  number = ap (λ (x : Mark). x.applied) is;
}

-- the same number counts, whatever the test is called
pub counted_as : (b b' : Bool) (held now : Held) → b ≡ b' → IsCounted b held now → IsCounted b' held now
counted_as b b' held now same counted = subst (λ (x : Bool). IsCounted x held now) same counted

-- where none is counted the number stays, whether the record was kept or not
pub uncounted : {A E : Type 0} (r : Result A E) (u : Option Story) (store store' : Store) (held now : Held) → store.number ≡ held.number → now.number ≡ held.number
    → OnErr r (store'.number ≡ store.number) → OnOk r (IsOn u store' now) → held.number ≡ store'.number
uncounted (Ok x) u store store' held now shows same err on = sym (on.keeps.holds.shows.number ∙ same)
uncounted (Err e) u store store' held now shows same err on = sym (err ∙ shows)

pub ok_from : {A E : Type 0} (r : Result A E) {X : Type 0} → X → OnOk r X
ok_from (Ok a) x = x
ok_from (Err e) x = tt

pub ok_map : {A E : Type 0} (r : Result A E) {X Y : Type 0} → OnOk r X → (X → Y) → OnOk r Y
ok_map (Ok a) x f = f x
ok_map (Err e) x f = tt

pub more_marks : (b b' : Bool) (n m k : ℕ) → b ≡ b' → k ≡ (if b' then 1 else 0) → n ≡ m + k → n ≡ m + (if b then 1 else 0)
more_marks b b' n m k same is counted = let one : cond {A = ℕ} b 1 0 ≡ cond b' 1 0 = ap {B = ℕ} (λ (x : Bool). cond x 1 0) same in omega (arith, one, is, counted)
