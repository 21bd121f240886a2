-- A source opens on what its disk has.
use Rattle.std.proofs.Common.{◌≡◌, ℕ, ◌<◌, ◌≤◌, ◌==◌, ◌^◌, List, [], ◌∷◌, length, map, Option, Some, Ok, refl, sym, ◌∙◌, ap, subst, arith}
use Rattle.std.specs.Prelude.{IfSome, if◌then◌else◌}
use Rattle.std.proofs.lemmas.Bool.{cond-false, ne_eqb}
use Rattle.port_traits.specs.declared.identity.Identity.{Identity}
use Rattle.port_traits.specs.declared.identity.Draw.{Draw}
use Rattle.answer_text.specs.declared.report.Mark.{Mark}
use Rattle.auto_inc.specs.declared.counters.Counter.{Counter}
use Rattle.disk_model.specs.Story.{Story, seen}
use Rattle.disk_model.proofs.Moments.{on_trans}
use Rattle.session_model.specs.log_entries.declared.entries.Item.{Item}
use Rattle.session_model.specs.log_entries.declared.entries.Entry.{Entry}
use Rattle.session_model.specs.log_entries.declared.entries.Entry.TheVariants.{LogStart}
use Rattle.session_model.specs.log_model.Log.{LogPlace, counted_all, written_to}
use Rattle.session_model.specs.catalog_rules.Bases.{Base}
use Rattle.session_model.specs.Sessions.{State}
use Rattle.session_model.specs.Machine.{Whole, first_state, kept_entry, kept_of}
use Rattle.session_model.specs.Holding.{changes_of, define}
use Rattle.session_model.specs.Openings.{opened_from, opening_entries}
use Rattle.prog_work.specs.Contents.{base_of}
use Rattle.store_model.specs.sql_reach.Defining.{counters_begun}
use Rattle.store_model.specs.declared.record.Head.{Head}
use Rattle.store_model.specs.declared.record.Kind.TheVariants.{Source}
use Rattle.store_model.specs.Held.{Held, LogEnd, last_end, most_committed}
use Rattle.store_model.specs.Entries.{held_behind, writer_at}
use Rattle.store_model.specs.Stores.{held_by}
use Rattle.commit_store.specs.declared.store.Store.{Store}
use Rattle.store_checkpoints.specs.store_source.durable_runs.Laws.{HasFirstLog, StoredBehind}
use Rattle.store_checkpoints.specs.store_source.durable_runs.Marks.{source_mark}
use Rattle.store_checkpoints.specs.store_source.durable_runs.Runs.{behind_steps}
use Rattle.store_checkpoints.specs.store_source.durable_runs.Sources.{SourceRuns, Stored, source_side, stored_behind}
use Rattle.store_checkpoints.proofs.of_store_source.of_durable_runs.Joining.{runs_join, runs_more}
use Rattle.store_checkpoints.proofs.of_store_source.of_durable_runs.Storing.{stored_is, stored_rises}
use Rattle.store_open.specs.declared.opening.Opened.{Opened}
use Rattle.store_open.specs.Opened.{held_with}
use Rattle.store_checkpoints.specs.store_source.Beginning.{begun_with}
use Rattle.store_checkpoints.specs.store_source.Writing.{IsOn}
use Rattle.store_checkpoints.proofs.of_store_source.Images.{if_map}
use Rattle.store_checkpoints.proofs.of_store_source.Logs.{count_positions}
use Rattle.source_node.specs.Standing.{state_of}
use Rattle.source_node.specs.session_shared.waiting_entries.Making.{has_place}
use Rattle.durable_source.specs.declared.source.DurableSource.{DurableSource}
use Rattle.durable_source.specs.Opening.{IsReady, found_on}
use Rattle.durable_source.specs.Standing.{OpensOn, Stands, beginning_of}
use Rattle.durable_source.proofs.Starting.{told_runs}

-- ---- the first log

-- opening puts out just the head of the first log, where there is none
entries_are : (ends : List LogEnd) (stamp server : ℕ) → begun_with ends stamp server ≡ (if length ends == 0 then LogStart stamp server ∷ [] else [])
entries_are [] stamp server = refl
entries_are (e ∷ ends) stamp server =
    sym (cond-false (length (e ∷ ends) == 0) (LogStart stamp server ∷ []) [] (ne_eqb (length (e ∷ ends)) 0 (λ same. absurd (omega (arith, same)))))

module _ (identity : Identity) (draw : Draw) (from : Stored) where
  abbrev es : List (Entry Whole)
  es = opening_entries identity draw (writer_at from.held)

  pub opening_is : begun_with from.held.ends draw.now identity.server_id ≡ es
  opening_is = entries_are from.held.ends draw.now identity.server_id

  -- what the store has behind it
  made_by : (ends : List LogEnd) → (after : Stored) × (behind_steps source_side (begun_with ends draw.now identity.server_id) from ≡ Some after)
  made_by [] = (stored_behind (LogStart draw.now identity.server_id) from (held_behind kept_of changes_of define (LogStart draw.now identity.server_id) from.held from.held.base), refl)
  made_by (e ∷ ends) = (from, refl)

  pub begun_stored : Stored
  begun_stored = (made_by from.held.ends).0

  pub begun_is : behind_steps source_side (begun_with from.held.ends draw.now identity.server_id) from ≡ Some begun_stored
  unfolding begun_stored
  begun_is = (made_by from.held.ends).1

  begun_reached : behind_steps source_side es from ≡ Some begun_stored
  begun_reached = subst (λ (l : List (Entry Whole)). behind_steps source_side l from ≡ Some begun_stored) opening_is begun_is

  first_by : (ends : List LogEnd) → HasFirstLog (begun_with ends draw.now identity.server_id) from.held
  first_by [] = tt
  first_by (e ∷ ends) = tt

  first : HasFirstLog es from.held
  first = subst (λ (l : List (Entry Whole)). HasFirstLog l from.held) opening_is (first_by from.held.ends)

  stored : StoredBehind es from begun_stored
  stored = stored_is es from begun_stored first begun_reached

  -- a source that was founded there stands for the run that opens
  module _ (v : Option Story) (k : DurableSource) (base : Base) (same : base ≡ from.held.base) (at : Head) (on : IsOn v k.store begun_stored)
      (place : at ≡ record { number = begun_stored.held.number; log = length begun_stored.held.ends; pos = last_end begun_stored.held.ends })
      (state : state_of k.node ≡ first_state base (counters_begun base) at.number (has_place at)) (none : k.node.desk.log.waiting ≡ []) where
    abbrev begins : Base → ℕ → LogPlace → State Item
    begins b number p = first_state b (counters_begun b) number p

    begun_state : state_of k.node ≡ begins from.held.base (counted_all (map kept_entry es) from.held.number) (written_to (map kept_entry es) from.held.number (writer_at from.held))
    begun_state =
        state ∙ ap (λ (h : Head). begins base h.number (has_place h)) place ∙ ap (λ (b : Base). begins b begun_stored.held.number (writer_at begun_stored.held)) same
        ∙ ap (λ (n : ℕ). begins from.held.base n (writer_at begun_stored.held)) stored.number
        ∙ ap (begins from.held.base (counted_all (map kept_entry es) from.held.number)) stored.writer

    pub opened_stands : Stands v k from (opened_from identity draw (beginning_of from))
    opened_stands = record {
      node = record { state = begun_state; none = none };
      slots = refl;
      first = first;
      now = begun_stored;
      reached = begun_reached;
      on = on;
    }

-- ---- runs

-- a run of no entry is one of those to come
pub none_yet : (t u : Option Story) (from : Stored) (es : List (Entry Whole)) (marks : List Mark) → SourceRuns t u from [] marks marks → SourceRuns t u from es marks marks
none_yet t u from es marks runs =
    runs_more source_side t u from [] es (map source_mark marks) (map source_mark marks) runs (λ mid last made is. stored_rises es mid last is)

-- and behind it the first log is begun
pub begun_runs : (t u v : Option Story) (o : Opened) (is : IsReady t u o) (identity : Identity) (draw : Draw)
    → ((s : Stored) (marks : List Mark) → IsOn u o.store s → s.held.number ≤ most_committed
    → SourceRuns u v s (begun_with s.held.ends draw.now identity.server_id) marks marks)
    → (from : Stored) (marks : List Mark) → OpensOn t from → SourceRuns t u from [] marks marks → SourceRuns t v from (opening_entries identity draw (writer_at from.held)) marks marks
begun_runs t u v o is identity draw begins from marks opens before =
    told_runs t v from (opening_entries identity draw (writer_at from.held)) marks (on_trans t u v before.on (begins (found_on t o) marks is.on (few (found_on t o) is.on)).on)
    (if_map t ((held_with o.work o.store ≡ from.held) × IsOn u o.store from) (SourceRuns t v from (opening_entries identity draw (writer_at from.held)) marks marks) (is.is from opens)
    (λ there.
    runs_join source_side t u v from from [] (opening_entries identity draw (writer_at from.held)) (map source_mark marks) (map source_mark marks) (map source_mark marks) before refl
    (subst (λ (l : List (Entry Whole)). SourceRuns u v from l marks marks) (opening_is identity draw from) (begins from marks there.1 (few from there.1)))))
  where
    few : (s : Stored) → IsOn u o.store s → s.held.number ≤ most_committed
    few s on = omega (arith, is.few, on.keeps.holds.shows.number)

-- ---- all together

module _ (t u v : Option Story) (o : Opened) (is : IsReady t u o) (identity : Identity) (draw : Draw) (k : DurableSource) (at : Head)
    (begins : (s after : Stored) → IsOn u o.store s → s.held.number ≤ most_committed → behind_steps source_side (begun_with s.held.ends draw.now identity.server_id) s ≡ Some after
    → IsOn v k.store after)
    (place : (x : Option Story) (s : Stored) → IsOn x k.store s → at ≡ record { number = s.held.number; log = length s.held.ends; pos = last_end s.held.ends })
    (state : state_of k.node ≡ first_state (base_of o.work) o.work.counters at.number (has_place at)) (none : k.node.desk.log.waiting ≡ []) where
  stands_from : (from : Stored) → IsOn u o.store from → base_of o.work ≡ from.held.base → Stands v k from (opened_from identity draw (beginning_of from))
  stands_from from on same =
      let there : IsOn v k.store (begun_stored identity draw from) =
      begins from (begun_stored identity draw from) on (omega (arith, is.few, on.keeps.holds.shows.number)) (begun_is identity draw from) in
      opened_stands identity draw from v k (base_of o.work) same at there (place v (begun_stored identity draw from) there)
      (state ∙ ap (λ (cs : List Counter). first_state (base_of o.work) cs at.number (has_place at)) is.counters) none

  pub stands_told : (from : Stored) → OpensOn t from → IfSome t (λ _. Stands v k from (opened_from identity draw (beginning_of from)))
  stands_told from opens =
      if_map t ((held_with o.work o.store ≡ from.held) × IsOn u o.store from) (Stands v k from (opened_from identity draw (beginning_of from))) (is.is from opens)
      (λ there. stands_from from there.1 (ap (λ (h : Held). h.base) there.0))

  pub stands_some : (from : Stored) × Stands v k from (opened_from identity draw (beginning_of from))
  stands_some = (found_on t o, stands_from (found_on t o) is.on refl)

pub held_there : (t u : Option Story) (o : Opened) → IsReady t u o → IfSome t (λ _. (held : Held) × (held_by Source (seen t) ≡ Ok held))
held_there t u o is =
    if_map t (held_by Source (seen t) ≡ Ok (held_with o.work o.store)) ((held : Held) × (held_by Source (seen t) ≡ Ok held)) is.told (λ e. (held_with o.work o.store, e))

few_logs : (t : Option Story) (store : Store) (s : Stored) → IsOn t store s → length store.ends.list < 2 ^ 32
few_logs t store s on = omega (arith, ap length on.keeps.holds.shows.ends, count_positions s.held.ends, on.few)

-- the store has no more logs than there are numbers for
pub numbered : (t u v : Option Story) (o : Opened) (is : IsReady t u o) (identity : Identity) (draw : Draw) (store : Store)
    → ((s after : Stored) → IsOn u o.store s → s.held.number ≤ most_committed → behind_steps source_side (begun_with s.held.ends draw.now identity.server_id) s ≡ Some after
    → IsOn v store after)
    → length store.ends.list < 2 ^ 32
numbered t u v o is identity draw store begins =
    few_logs v store (begun_stored identity draw (found_on t o))
    (begins (found_on t o) (begun_stored identity draw (found_on t o)) is.on (omega (arith, is.few, is.on.keeps.holds.shows.number)) (begun_is identity draw (found_on t o)))
