-- The calls of an entry's writing, one after the other.
use Rattle.std.proofs.Common.{◌≡◌, ℕ, ◌+◌, ◌<◌, ◌≤◌, ◌≢◌, ◌-◌, ◌==◌, ◌^◌, Bool, true, false, cond, suc, List, [], ◌∷◌, length, take, get_or, Option, Some, None, Result, Ok, Err, refl, sym, ◌∙◌, ap, subst, arith}
use Rattle.std.specs.Prelude.{if◌then◌else◌, IfOk, OnOk}
use Rattle.disk_model.specs.Story.{Story, count, overwritten, seen}
use Rattle.disk_model.specs.Moments.{Always}
use Rattle.disk_model.specs.Claims.{Quietly, WorksOn}
use Rattle.disk_model.proofs.Laws.{if_on}
use Rattle.disk_model.proofs.Moments.{on_trans}
use Rattle.gate_journal.specs.declared.journal.Journal.{Journal}
use Rattle.gate_journal.specs.Records.{records}
use Rattle.gate_journal.specs.Journal.{HasStaged, IsAtGate}
use Rattle.session_model.specs.log_entries.declared.entries.Item.{Item}
use Rattle.session_model.specs.log_entries.declared.entries.Entry.{Entry}
use Rattle.session_model.specs.log_entries.declared.entries.Entry.TheVariants.{Transaction, Definition, LogStart}
use Rattle.session_model.specs.log_model.Log.{LogPlace}
use Rattle.session_model.specs.Machine.{Whole, kept_entry}
use Rattle.store_model.specs.declared.record.Kind.{Kind}
use Rattle.store_model.specs.declared.record.Record.{Record}
use Rattle.store_model.specs.Bodies.{IsRecord, body_of}
use Rattle.store_model.specs.Entries.{writer_at, record_of_entry}
use Rattle.store_model.specs.Held.{LogEnd, Held}
use Rattle.store_model.specs.Stores.{first_log, HasLogs}
use Rattle.commit_store.specs.declared.store.Store.{Store}
use Rattle.commit_store.specs.declared.next.Next.{Next}
use Rattle.commit_store.specs.declared.prepared.Prepared.{Prepared}
use Rattle.commit_store.specs.Reserved.{LogEnds}
use Rattle.commit_store.specs.Next.{HasRoom, next_of, passed, prepared_of}
use Rattle.commit_store.specs.Keeping.{StandsFor, Either, Keeps, IsReady, LeadsOn}
use Rattle.commit_store.proofs.Standing.{same_stands}
use Rattle.durable_runs.specs.Sources.{Stored, end_of, log_in, entry_stored}
use Rattle.waiting_entries.specs.declared.waiting.Waiting.{Waiting}
use Rattle.waiting_entries.specs.Waiting.{counts}
use Rattle.store_source.specs.Pushed.{begun}
use Rattle.store_source.specs.Writing.{IsOn, CanWrite, StaysOn, LeadsTo, only_for, PutsBehind, HasGrown}
use Rattle.store_source.proofs.Logs.{over_none, end_last, end_past, last_position, count_positions}
use Rattle.store_source.proofs.Images.{if_map, stays_both, stays_then, stage_stays, stage_on, grown_on, commit_leads, commit_on, two_put}
use Rattle.store_source.proofs.Entries.{node_passed, record_for, prepared_is, counts_are, body, makes, few, grown}

-- what follows of two facts at Ok
pub ok_two : {A E : Type 0} (r : Result A E) {X Y Z : Type 0} → OnOk r X → OnOk r Y → (X → Y → Z) → OnOk r Z
ok_two (Ok a) x y f = f x y
ok_two (Err e) x y f = tt

pub ok_map : {A E : Type 0} (r : Result A E) {P Q : A → Type 0} → IfOk r P → ((a : A) → P a → Q a) → IfOk r Q
ok_map (Ok a) p f = f a p
ok_map (Err e) p f = tt

-- ---- the code's logs

pub count_is : (t : Option Story) (store : Store) (s : Stored) (on : IsOn t store s) (n : ℕ) (ends : List ℕ) → n ≡ length ends → ends ≡ store.ends.list → n ≡ length s.held.ends
count_is t store s on n ends is same = is ∙ ap length same ∙ ap length on.keeps.holds.shows.ends ∙ count_positions s.held.ends

-- where the last one ends
pub tail_end : (t : Option Story) (store : Store) (s : Stored) (on : IsOn t store s) (ends ends' : List ℕ) → ends ≡ store.ends.list → ends' ≡ store.ends.list → length ends ≢ 0
    → get_or ends' (length ends - 1) 0 ≡ end_of (length ends) s.held.ends
tail_end t store s on ends ends' same same' some =
    let count = count_is t store s on (length ends) ends refl same in
    let last : length s.held.ends ≡ suc (length ends - 1) = omega (arith, count, some) in
    ap (λ (l : List ℕ). get_or l (length ends - 1) 0) (same' ∙ on.keeps.holds.shows.ends) ∙ last_position s.held.ends (length ends - 1) 0 last
    ∙ sym (ap (λ (k : ℕ). end_of k s.held.ends) count ∙ end_last s.held.ends)

-- no log stands behind the last one
pub next_end : (t : Option Story) (store : Store) (s : Stored) (on : IsOn t store s) (n : ℕ) (ends : List ℕ) → n ≡ length ends → ends ≡ store.ends.list → 0 ≡ end_of (n + 1) s.held.ends
next_end t store s on n ends is same =
    let count = count_is t store s on n ends is same in
    sym (end_past (n + 1) s.held.ends (omega (arith, count)))

abbrev only_if : Bool → List ℕ
only_if b = if b then [] else []

none_by : (b : Bool) → only_if b ≡ []
none_by true = refl
none_by false = refl

none_for : (n log : ℕ) → only_for log [] n ≡ []
none_for n log = none_by (n == log)

pub none_put : (t : Option Story) (ends : List LogEnd) (log : ℕ) (piece : List ℕ) → piece ≡ [] → PutsBehind t t ends (only_for log piece)
none_put None ends log piece none = tt
none_put (Some s) ends log piece none = λ n.
    sym (ap (λ (p : List ℕ). overwritten (end_of n ends) (only_for log p n) (seen (Some s) (7 + n))) none
    ∙ ap (λ (p : List ℕ). overwritten (end_of n ends) p (seen (Some s) (7 + n))) (none_for n log)
    ∙ over_none (end_of n ends) (seen (Some s) (7 + n)))

-- a record is prepared
pub on_prepared : (t : Option Story) (store store' : Store) (s : Stored) → IsOn t store s → Keeps t store' s.held → store'.node ≡ store.node → IsOn t store' s
on_prepared t store store' s on keeps same = record { node = same ∙ on.node; keeps = keeps; few = on.few; logs = on.logs }

pub can_prepared : (t : Option Story) (store store' : Store) (s : Stored) (es : List (Entry Whole)) (queue : List Waiting) → CanWrite t store s es queue → Keeps t store' s.held
    → store'.node ≡ store.node → CanWrite t store' s es queue
can_prepared t store store' s es queue can keeps same = record {
  on = on_prepared t store store' s can.on keeps same;
  made = can.made;
  within = can.within;
  leads = can.leads;
  queue = can.queue;
  bodies = can.bodies;
}

-- there is room for the end of a log that an entry begins
room_by : (e : Entry Item) (number : ℕ) (p : LogPlace) (ends : LogEnds) → cond (counts e) 0 1 + 0 ≤ ends.room → HasRoom (next_of (record_of_entry e number p)) ends
room_by (Transaction stamp server is) number p ends room = tt
room_by (Definition stamp server i) number p ends room = tt
room_by (LogStart stamp server) number p ends room = omega (arith, room)

pub room_is : (t : Option Story) (before : Store) (s : Stored) (e : Entry Whole) (w : Waiting) (can : CanWrite t before s (e ∷ []) (w ∷ [])) (next : Next) (ends : LogEnds)
    → next ≡ w.prepared.next → begun (w ∷ []) ≤ ends.room → HasRoom next ends
room_is t before s e w can next ends is room =
    let more : begun (w ∷ []) ≡ cond (counts (kept_entry e)) 0 1 + 0 = ap {B = ℕ} (λ (b : Bool). cond b 0 1 + 0) (counts_are t before s e w can) in
    subst (λ (n : Next). HasRoom n ends) (sym (is ∙ ap (λ (p : Prepared). p.next) (prepared_is t before s e w can)))
    (room_by (kept_entry e) s.held.number (writer_at s.held) ends (omega (arith, more, room)))

-- a log that began has taken one
left_by : (e : Entry Item) (number : ℕ) (p : LogPlace) (store : Store) → store.ends.room ≤ (passed (next_of (record_of_entry e number p)) store).ends.room + (cond (counts e) 0 1 + 0)
left_by (Transaction stamp server is) number p store = omega arith
left_by (Definition stamp server i) number p store = omega arith
left_by (LogStart stamp server) number p store = omega arith

pub room_after : (t : Option Story) (before : Store) (s : Stored) (e : Entry Whole) (w : Waiting) (can : CanWrite t before s (e ∷ []) (w ∷ [])) (store last : Store) (journal : Journal)
    → store.next ≡ w.prepared.next → store.ends.room ≡ before.ends.room → last ≡ passed store.next (record store { journal = journal }) → before.ends.room ≤ last.ends.room + begun (w ∷ [])
room_after t before s e w can store last journal is room passes =
    let more : begun (w ∷ []) ≡ cond (counts (kept_entry e)) 0 1 + 0 = ap {B = ℕ} (λ (b : Bool). cond b 0 1 + 0) (counts_are t before s e w can) in
    let same : last ≡ passed (next_of (record_for e s)) (record store { journal = journal }) =
    passes ∙ ap (λ (n : Next). passed n (record store { journal = journal })) (is ∙ ap (λ (p : Prepared). p.next) (prepared_is t before s e w can)) in
    omega (arith, more, room, ap (λ (st : Store). st.ends.room) same, left_by (kept_entry e) s.held.number (writer_at s.held) (record store { journal = journal }))

-- a record is committed
pub node_after : (last store : Store) (journal : Journal) → last ≡ passed store.next (record store { journal = journal }) → last.node ≡ store.node
node_after last store journal is = ap (λ (st : Store). st.node) is ∙ node_passed store.next (record store { journal = journal })

-- the entry's record is ready, where what was prepared of it is taken over
pub ready_for : (t : Option Story) (before store : Store) (s : Stored) (e : Entry Whole) (w : Waiting) (can : CanWrite t before s (e ∷ []) (w ∷ []))
    → ((r : Record) → w.prepared ≡ prepared_of r → IsRecord before.node r → length (body_of r) < 2 ^ 32 → IsReady store r) → IsReady store (record_for e s)
ready_for t before store s e w can takes =
    takes (record_for e s) (prepared_is t before s e w can) (subst (λ (k : Kind). IsRecord k (record_for e s)) (sym can.on.node) (body t before s e w can).form)
    (body t before s e w can).fits

-- ---- up to the staged record

module _ (t u v : Option Story) (before store : Store) (s now : Stored) (e : Entry Whole) (w : Waiting) (can : CanWrite t before s (e ∷ []) (w ∷ [])) (is : entry_stored e s ≡ Some now)
    (tail : StaysOn t u s) (tail_puts : PutsBehind t u s.held.ends (only_for (length s.held.ends) w.tail))
    (head : StaysOn u v s) (head_puts : PutsBehind u v s.held.ends (only_for (length s.held.ends + 1) w.head)) (on : IsOn v store s) where
  logs_grown : HasGrown v now
  logs_grown = grown t before s e w can now is v (on_trans t u v tail.on head.on) (two_put t u v s.held.ends w tail.on tail_puts head_puts)

  module _ (x : Option Story) (works : WorksOn v x store.journal.file) (images : Always (count v) x (StandsFor store s.held)) where
    pub staged_stays : StaysOn t x s
    staged_stays = stays_both t v x s (stays_both t u v s tail head) (stage_stays v store s on x works images)

    module _ (after : Store) (same : after ≡ store) (keeps : Keeps x store s.held) (ready : IsReady store (record_for e s)) (staged : HasStaged x store.journal (body_of (record_for e s))) where
      on_staged : IsOn x after s
      on_staged = subst (λ (st : Store). IsOn x st s) (sym same) (stage_on v store s on x works keeps)

      staged_grown : HasGrown x now
      staged_grown = grown_on v store s on x works now logs_grown

      pub leads_on : LeadsOn x after (record_for e s) s.held now.held
      leads_on = record {
        keeps = on_staged.keeps;
        ready = subst (λ (st : Store). IsReady st (record_for e s)) (sym same) ready;
        staged = subst (λ (st : Store). HasStaged x st.journal (body_of (record_for e s))) (sym same) staged;
        makes = makes t before s e w can now is;
        logs = if_map x (HasLogs first_log now.held.ends (seen x) × ((n : ℕ) → log_in n now.held.ends (seen x) ≡ now.logs n)) (HasLogs first_log now.held.ends (seen x))
            staged_grown (λ y. y.0);
      }

      module _ (y : Option Story) (works' : WorksOn x y after.journal.file) where
        pub all_leads : Always (count x) y (Either after s.held now.held) → LeadsTo t y s now
        all_leads either = stays_then t x y s now staged_stays (commit_leads x after s on_staged y works' now staged_grown either)

        pub all_on : (last : Store) → Keeps y last now.held → last.node ≡ after.node → IsOn y last now
        all_on last kept node =
            commit_on x after s on_staged y works' now staged_grown last (node ∙ on_staged.node) kept (few t before s e w can now is)

-- ---- calls that only look

quiet_keeps : (t u : Option Story) (store : Store) (held : Held) → Keeps t store held → Quietly t u → Keeps u store held
quiet_keeps t u store held keeps quiet = record {
  holds = record {
    file = keeps.holds.file;
    durable = λ f kept c left. keeps.holds.durable f kept c (quiet.left f c left) ∙ sym (quiet.reads f);
    stands = if_on t u (StandsFor store held (seen t)) (StandsFor store held (seen u)) quiet.on keeps.holds.stands
        (λ stands. same_stands t store held keeps.holds (seen u) (λ g kept ne. quiet.reads g) stands (ap records (quiet.reads store.journal.file)));
    shows = keeps.holds.shows;
    own = keeps.holds.own;
  };
  rests = record {
    durable = λ c left. keeps.rests.durable c (quiet.left store.journal.file c left) ∙ sym (quiet.reads store.journal.file);
    room = keeps.rests.room;
    gate = if_on t u (IsAtGate (seen t store.journal.file) store.journal.gate) (IsAtGate (seen u store.journal.file) store.journal.gate) quiet.on keeps.rests.gate
        (λ at. subst (λ (l : List ℕ). IsAtGate l store.journal.gate) (sym (quiet.reads store.journal.file)) at);
  };
}

pub on_looked : (t u : Option Story) (store : Store) (s : Stored) → IsOn t store s → Quietly t u → IsOn u store s
on_looked t u store s on quiet = record {
  node = on.node;
  keeps = quiet_keeps t u store s.held on.keeps quiet;
  few = on.few;
  logs = if_on t u ((n : ℕ) → log_in n s.held.ends (seen t) ≡ s.logs n) ((n : ℕ) → log_in n s.held.ends (seen u) ≡ s.logs n) quiet.on on.logs
      (λ has n. ap (take (end_of n s.held.ends)) (quiet.reads (7 + n)) ∙ has n);
}
