-- The first log.
use Rattle.std.proofs.Common.{◌≡◌, ℕ, ◌+◌, ◌<◌, ◌≤◌, ◌^◌, Bool, true, false, cond, List, [], ◌∷◌, length, map, Option, Some, Result, Ok, Err, refl, sym, ◌∙◌, ap, subst, arith}
use Rattle.std.specs.Prelude.{◌==◌, IfSome, OnOk}
use Rattle.std.proofs.lemmas.Bool.{ne_eqb}
use Rattle.std.specs.Option.{option_and_then}
use Rattle.answer_text.specs.declared.report.Mark.{Mark}
use Rattle.disk_model.specs.Story.{Story, count}
use Rattle.session_model.specs.log_entries.declared.entries.Entry.{Entry}
use Rattle.session_model.specs.log_entries.declared.entries.Entry.TheVariants.{LogStart}
use Rattle.session_model.specs.log_model.Log.{LogPlace, head}
use Rattle.session_model.specs.Machine.{Whole, kept_of, nowhere}
use Rattle.session_model.specs.Holding.{changes_of, define}
use Rattle.session_model.proofs.of_log_model.Growing.{head_length}
use Rattle.store_model.specs.Held.{LogEnd, Held, last_end, most_committed}
use Rattle.store_model.specs.declared.record.Record.{Record}
use Rattle.store_model.specs.declared.record.Record.TheVariants as records
use Rattle.store_model.specs.Entries.{record_of_entry, held_behind}
use Rattle.commit_store.specs.declared.store.Store.{Store}
use Rattle.commit_store.specs.Keeping.{positions}
use Rattle.durable_runs.specs.Marks.{source_mark}
use Rattle.durable_runs.specs.Runs.{behind_steps}
use Rattle.durable_runs.specs.Sources.{Stored, entry_stored, source_side, SourceRuns}
use Rattle.durable_runs.proofs.Joining.{runs_none, runs_failed, runs_more}
use Rattle.durable_runs.proofs.Storing.{stored_rises}
use Rattle.waiting_entries.specs.declared.waiting.Waiting.{Waiting}
use Rattle.waiting_entries.specs.Waiting.{waiting_of, HasBody}
use Rattle.store_source.specs.Writing.{IsOn, CanWrite, LeadsTo, calls_of}
use Rattle.store_source.specs.Pushed.{begun}
use Rattle.store_source.specs.Beginning.{begun_with, calls_begun}
use Rattle.store_source.proofs.Images.{if_map, each_stands}
use Rattle.store_source.proofs.Entries.{made}
use Rattle.store_source.proofs.Queues.{put_some}
use Rattle.store_source.proofs.StartBody.{start_fits}

no_ends : (ends : List LogEnd) → positions ends ≡ [] → ends ≡ []
no_ends [] is = refl
no_ends (e ∷ ends) is = cc

-- the code's test
false_true : false ≡ true → ⊥
false_true e = cc

pub not_empty : (b : Bool) (ends ends' : List ℕ) → b ≡ (length ends == 0) → b ≡ false → ends ≡ ends' → ends' ≡ [] → ⊥
not_empty b ends ends' tests fails same none = false_true (sym fails ∙ tests ∙ ap (λ (l : List ℕ). length l == 0) (same ∙ none))

none_by : (ends : List ℕ) → (length ends == 0) ≡ true → ends ≡ []
none_by [] e = refl
none_by (x ∷ ends) e = absurd (false_true (sym (ne_eqb (length (x ∷ ends)) 0 (λ same. absurd (omega (arith, same)))) ∙ e))

pub is_none : (b : Bool) (ends ends' : List ℕ) → b ≡ (length ends == 0) → b ≡ true → ends ≡ ends' → ends' ≡ []
is_none b ends ends' tests holds same = sym same ∙ none_by ends (sym tests ∙ holds)

-- want of memory before the first call
pub early_run : (t : Option Story) (store : Store) (s : Stored) (on : IsOn t store s) (stamp server : ℕ) (marks : List Mark)
    → SourceRuns t t s (begun_with s.held.ends stamp server) marks marks
early_run t store s on stamp server marks =
    runs_more source_side t t s [] (begun_with s.held.ends stamp server) (map source_mark marks) (map source_mark marks)
    (runs_none source_side t s (map source_mark marks) (each_stands t store s on)) (λ mid last made is. stored_rises (begun_with s.held.ends stamp server) mid last is)

-- ---- where a log has begun

begun_none : (ends : List LogEnd) (stamp server : ℕ) → (positions ends ≡ [] → ⊥) → begun_with ends stamp server ≡ []
begun_none [] stamp server some = absurd (some refl)
begun_none (e ∷ ends) stamp server some = refl

module _ (t : Option Story) (store : Store) (s : Stored) (on : IsOn t store s) (stamp server : ℕ) (some : store.ends.list ≡ [] → ⊥) where
  nothing : begun_with s.held.ends stamp server ≡ []
  nothing = begun_none s.held.ends stamp server (λ none. some (on.keeps.holds.shows.ends ∙ none))

  pub idle_run : (marks : List Mark) → SourceRuns t t s (begun_with s.held.ends stamp server) marks marks
  idle_run marks =
      subst (λ (es : List (Entry Whole)). SourceRuns t t s es marks marks) (sym nothing) (runs_none source_side t s (map source_mark marks) (each_stands t store s on))

  pub idle_on : (after : Stored) → behind_steps source_side (begun_with s.held.ends stamp server) s ≡ Some after → IsOn t store after
  idle_on after is =
      let same : s ≡ after = same_some s after (sym (ap (λ (es : List (Entry Whole)). behind_steps source_side es s) nothing) ∙ is) in
      subst (λ (x : Stored). IsOn t store x) same on
    where
      same_some : (x y : Stored) → Some x ≡ Some y → x ≡ y
      same_some x y e = cc

pub idle_calls : (ends : List ℕ) → (ends ≡ [] → ⊥) → calls_begun ends ≡ 0
idle_calls [] some = absurd (some refl)
idle_calls (e ∷ ends) some = refl

-- ---- where none has

-- the record of the first log's start
abbrev pub start_record : ℕ → Record
start_record number = records.LogStart (record { number = number; log = 1; pos = 123 }) 0

pub start_body : (number : ℕ) → number < 2 ^ 64 → HasBody (start_record number)
start_body number few = record {
  form = (record { number = few; log = omega arith; pos = omega arith }, omega arith);
  fits = start_fits (record { number = number; log = 1; pos = 123 }) 0;
}

module _ (t : Option Story) (store : Store) (s : Stored) (on : IsOn t store s) (few : s.held.number ≤ most_committed) (stamp server : ℕ) (none : store.ends.list ≡ [])
    (w : Waiting) (is : w ≡ waiting_of (LogStart stamp server) store.number nowhere) where
  ends : s.held.ends ≡ []
  ends = no_ends s.held.ends (sym on.keeps.holds.shows.ends ∙ none)

  number : store.number ≡ s.held.number
  number = on.keeps.holds.shows.number

  first : Entry Whole
  first = LogStart stamp server

  pub can_begin : CanWrite t store s (LogStart stamp server ∷ []) (w ∷ [])
  can_begin = record {
    on = on;
    made = (tt, tt);
    within = (
      (few, (omega (arith, ap length ends), omega (arith, ap last_end ends))),
      λ now made. tt,
    );
    leads = (held_behind kept_of changes_of define (LogStart stamp server) s.held s.held.base, refl);
    queue = ap (λ (x : Waiting). x ∷ []) (is ∙ ap (λ (n : ℕ). waiting_of (LogStart stamp server) n nowhere) number
        ∙ ap (λ (all : List LogEnd). waiting_of (LogStart stamp server) s.held.number (record { log = length all; pos = last_end all })) (sym ends));
    bodies = (
      subst (λ (all : List LogEnd). HasBody (record_of_entry (LogStart stamp server) s.held.number (record { log = length all; pos = last_end all }))) (sym ends)
          (start_body s.held.number (omega (arith, few))),
      tt,
    );
  }

  begun_is : begun_with s.held.ends stamp server ≡ LogStart stamp server ∷ []
  begun_is = ap (λ (all : List LogEnd). begun_with all stamp server) ends

  module _ (u : Option Story) (leads : (x y : Stored) (e : Entry Whole) → CanWrite t store x (e ∷ []) (w ∷ []) → entry_stored e x ≡ Some y → LeadsTo t u x y) where
    pub begun_run : (marks : List Mark) → SourceRuns t u s (begun_with s.held.ends stamp server) marks marks
    begun_run marks =
        let next = made t store s (LogStart stamp server) w can_begin in
        let led = leads s next.0 (LogStart stamp server) can_begin next.1 in
        subst (λ (es : List (Entry Whole)). SourceRuns t u s es marks marks) (sym begun_is)
        (runs_failed source_side t u s next.0 (LogStart stamp server) (map source_mark marks) next.1
        (stored_rises (LogStart stamp server ∷ []) s next.0 (ap (option_and_then (behind_steps source_side [])) next.1)) led.on led.images)

  pub begun_on : (u : Option Story) (last : Store) (after : Stored) → behind_steps source_side (begun_with s.held.ends stamp server) s ≡ Some after
      → ((x y : Stored) (e : Entry Whole) → CanWrite t store x (e ∷ []) (w ∷ []) → entry_stored e x ≡ Some y → IsOn u last y) → IsOn u last after
  begun_on u last after goes on' =
      on' s after (LogStart stamp server) can_begin
      (only (entry_stored (LogStart stamp server) s) (sym (ap (λ (es : List (Entry Whole)). behind_steps source_side es s) begun_is) ∙ goes))
    where
      only : (made : Option Stored) → option_and_then (behind_steps source_side []) made ≡ Some after → made ≡ Some after
      only Option.None e = cc
      only (Some x) e = e

  pub begun_calls : calls_of store.ends.list w ≡ calls_begun store.ends.list
  begun_calls =
      let bytes : w.head ≡ head stamp server = ap (λ (x : Waiting). x.head) is in
      let size : Rattle.store_source.specs.Writing.put_calls w.head ≡ 2 =
      ap Rattle.store_source.specs.Writing.put_calls bytes ∙ put_some (head stamp server) (omega (arith, head_length stamp server)) in
      omega (arith, size, ap (λ (l : List ℕ). calls_of l w) none, ap calls_begun none)

-- one entry begins one log at the most
one_by : (b : Bool) → cond {A = ℕ} b 0 1 + 0 ≤ 1
one_by true = omega arith
one_by false = omega arith

pub one_more : (w : Waiting) → begun (w ∷ []) ≤ 1
one_more w = one_by w.counts

-- ---- at Ok

pub ok_on : {A E : Type 0} (r : Result A E) (t u : Option Story) (store last : Store) (w : Waiting) (Z : Type 0)
    → ((x y : Stored) (e : Entry Whole) → CanWrite t store x (e ∷ []) (w ∷ []) → entry_stored e x ≡ Some y → OnOk r (IsOn u last y))
    → (((x y : Stored) (e : Entry Whole) → CanWrite t store x (e ∷ []) (w ∷ []) → entry_stored e x ≡ Some y → IsOn u last y) → Z) → OnOk r Z
ok_on (Ok a) t u store last w Z on f = f on
ok_on (Err e) t u store last w Z on f = tt

pub ok_calls : {A E : Type 0} (r : Result A E) (t : Option Story) (x y z z' : ℕ) → z ≡ z' → OnOk r (IfSome t (λ _. x ≡ y + z)) → OnOk r (IfSome t (λ _. x ≡ y + z'))
ok_calls (Ok a) t x y z z' same is = if_map t (x ≡ y + z) (x ≡ y + z') is (λ e. omega (arith, e, same))
ok_calls (Err e) t x y z z' same is = tt
