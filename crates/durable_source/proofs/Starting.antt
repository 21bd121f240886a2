-- A store that is read and started stays what it is.
use Rattle.std.proofs.Common.{◌≡◌, ◌≢◌, inl, ℕ, ◌+◌, ◌≤◌, suc, List, [], length, get_or, map, take, Option, Some, None, Result, Ok, Err, sym, ◌∙◌, ap, subst, arith}
use Rattle.std.specs.Prelude.{IfSome}
use Rattle.std.proofs.lemmas.List.{append-nil}
use Rattle.answer_text.specs.declared.report.Mark.{Mark}
use Rattle.disk_model.specs.Story.{Image, Story, count, seen}
use Rattle.disk_model.specs.declared.refusals.DiskRefusal.{DiskRefusal}
use Rattle.disk_model.specs.declared.refusals.DiskRefusal.TheVariants.{Failed, NoMemory}
use Rattle.disk_model.specs.Refusals.{refusal_of}
use Rattle.disk_model.specs.Left.{Left}
use Rattle.disk_model.specs.Moments.{Always, GoesOn, IsSettled, Only, OthersOf}
use Rattle.disk_model.specs.Claims.{Quietly, WorksOn}
use Rattle.disk_model.proofs.Laws.{if_all, if_both, if_on}
use Rattle.disk_model.proofs.Moments.{on_trans}
use Rattle.disk_model.proofs.Putting.{since_told}
use Rattle.gate_journal.specs.Records.{records}
use Rattle.session_model.specs.log_entries.declared.entries.Entry.{Entry}
use Rattle.session_model.specs.Machine.{Whole}
use Rattle.prog_work.specs.Contents.{Contents, base_of}
use Rattle.store_model.specs.sql_reach.Defining.{counters_begun}
use Rattle.store_model.specs.declared.record.Kind.{Kind}
use Rattle.store_model.specs.declared.record.Kind.TheVariants.{Source}
use Rattle.store_model.specs.Held.{Held, LogEnd, last_end, most_committed, most_logs}
use Rattle.store_model.specs.Stores.{first_log, held_by, journal_of, Stands}
use Rattle.store_model.proofs.Standing.{apart, still_stands, together}
use Rattle.commit_store.specs.declared.store.Store.{Store}
use Rattle.commit_store.specs.Keeping.{AreDurable, Holds as StoreHolds, Keeps, StandsFor, positions}
use Rattle.store_checkpoints.specs.store_source.durable_runs.Marks.{Named, source_mark}
use Rattle.store_checkpoints.specs.store_source.durable_runs.Runs.{Runs}
use Rattle.store_checkpoints.specs.store_source.durable_runs.Sources.{SourceRuns, SourceStands, Stored, end_of, log_in, source_side, stored_in}
use Rattle.store_checkpoints.proofs.of_store_source.of_durable_runs.Joining.{runs_kept, runs_untold}
use Rattle.store_open.specs.store_load.Loading.{TellsDamage}
use Rattle.store_open.proofs.of_store_load.Whole.{same_short}
use Rattle.store_open.specs.Opened.{held_with}
use Rattle.store_checkpoints.specs.store_source.Writing.{IsOn, StaysOn}
use Rattle.store_checkpoints.proofs.of_store_source.Images.{if_map, stays_both}
use Rattle.store_checkpoints.proofs.of_store_source.Logs.{count_positions, last_position}
use Rattle.durable_source.specs.Opening.{IsReady}
use Rattle.durable_source.specs.Standing.{OpensOn}

-- ---- refusals of a disk tell no damage

pub none_told : (A : Type 0) (t : Option Story) (r : DiskRefusal) → TellsDamage {A = A} t Source (Err (refusal_of r))
none_told A t Failed = tt
none_told A t NoMemory = tt

-- ---- where a source writes

pub last_is : (ends : List ℕ) (all : List LogEnd) (n : ℕ) → ends ≡ positions all → length ends ≡ suc n → (d : ℕ) → get_or ends n d ≡ last_end all
last_is ends all n is count d =
    ap (λ (l : List ℕ). get_or l n d) is
    ∙ last_position all n d (sym (count_positions all) ∙ sym (ap length is) ∙ count)

-- ---- calls that only look

-- files that read the same stand for the same
source_read : (s : Stored) (image other : Image) → ((f : ℕ) → other f ≡ image f) → SourceStands s image → SourceStands s other
source_read s image other same stands =
    let a = apart Source image s.held stands.held in
    record {
      held = together Source other s.held a.0 (still_stands Source a.0 image other s.held a.1 (record { zeroth = inl (same 0); first = inl (same 1) })
          (ap records (same (journal_of a.0))) (same_short first_log s.held.ends image other same ∙ a.1.logs));
      logs = λ n. ap (take (end_of n s.held.ends)) (same (7 + n)) ∙ stands.logs n;
    }

pub looked : (t u : Option Story) (s : Stored) → IsSettled t → OpensOn t s → Quietly t u → StaysOn t u s
looked t u s settled opens quiet = record {
  on = quiet.on;
  images = since_told t u (SourceStands s (seen t)) (count t) (λ n image. (f : ℕ) → Left t f (image f)) (λ n image. SourceStands s image) quiet.on opens
      (λ stands n image le ge left. source_read s (seen t) image (λ f. settled f (image f) (left f)) stands) quiet.images;
}

-- what is claimed of a disk that tells is claimed of each
pub told_runs : (t u : Option Story) (s : Stored) (es : List (Entry Whole)) (marks : List Mark) → GoesOn t u → IfSome t (λ _. SourceRuns t u s es marks marks)
    → SourceRuns t u s es marks marks
told_runs None None s es marks on told =
    subst (λ (b : List Named). Runs source_side None None s es (map source_mark marks) b) (append-nil (map source_mark marks))
    (runs_untold source_side s es (map source_mark marks) [])
told_runs None (Some u) s es marks on told = absurd on
told_runs (Some t) u s es marks on told = told

-- calls that leave what a store has are a run of no entry
pub stays_runs : (t u : Option Story) (s : Stored) (marks : List Mark) → StaysOn t u s → SourceRuns t u s [] marks marks
stays_runs t u s marks stays = runs_kept source_side t u s (map source_mark marks) stays.on stays.images

-- ---- the journal is started

module _ (u v : Option Story) (store : Store) (s : Stored) (node : store.node ≡ Source) (holds : StoreHolds u store s.held)
    (logs : IfSome u (λ _. (n : ℕ) → log_in n s.held.ends (seen u) ≡ s.logs n)) (works : WorksOn u v store.journal.file) where
  durable : (f : ℕ) → Only u f (seen u f)
  durable f = let all : AreDurable Source u = subst (λ (k : Kind). AreDurable k u) node holds.durable in all f tt

  apart_from : (n : ℕ) → 7 + n ≢ store.journal.file
  apart_from n same = let at : 7 + n ≡ journal_of store.generation = same ∙ holds.file in absurd (omega arith)

  held_now : (image : Image) → StandsFor store s.held image → held_by Source image ≡ Ok s.held
  held_now image stands = together Source image s.held store.generation (subst (λ (k : Kind). Stands k store.generation image s.held) node stands)

  logs_now : (image : Image) → OthersOf u store.journal.file image → (n : ℕ) → log_in n s.held.ends image ≡ log_in n s.held.ends (seen u)
  logs_now image others n = ap (take (end_of n s.held.ends)) (durable (7 + n) (image (7 + n)) (others (7 + n) (apart_from n)))

  -- both facts of each moment
  both : Always (count u) v (StandsFor store s.held) → Always (count u) v (λ image. StandsFor store s.held image × OthersOf u store.journal.file image)
  both stands = record {
    after = λ n le ge image left. (stands.after n le ge image left, (works.images.after n le ge image left).1);
    during = λ n le lt image left. (stands.during n le lt image left, (works.images.during n le lt image left).1);
  }

  pub start_stays : Always (count u) v (StandsFor store s.held) → StaysOn u v s
  start_stays stands = record {
    on = works.on;
    images = since_told u v ((n : ℕ) → log_in n s.held.ends (seen u) ≡ s.logs n) (count u) (λ n image. StandsFor store s.held image × OthersOf u store.journal.file image)
        (λ n image. SourceStands s image) works.on logs
        (λ has k image le ge h. record { held = held_now image h.0; logs = λ n. logs_now image h.1 n ∙ has n }) (both stands);
  }

  pub start_on : (last : Store) → last.node ≡ store.node → Keeps v last s.held → length s.held.ends ≤ most_logs → IsOn v last s
  start_on last same keeps few = record {
    node = same ∙ node;
    keeps = keeps;
    few = few;
    logs = if_on u v ((n : ℕ) → log_in n s.held.ends (seen u) ≡ s.logs n) ((n : ℕ) → log_in n s.held.ends (seen v) ≡ s.logs n) works.on logs
        (λ has n. ap (take (end_of n s.held.ends)) (works.reads (7 + n) (apart_from n)) ∙ has n);
  }

-- ---- a store is opened

same_ok : {A E : Type 0} (x y : A) (r : Result A E) → r ≡ Ok x → r ≡ Ok y → x ≡ y
same_ok {A} {E} x y r e f = ap (λ (q : Result A E). elim q [ Ok a ↦ a | Err error ↦ x ]) (sym e ∙ f)

module _ (t u : Option Story) (work : Contents) (store : Store) (settled : IsSettled t) (quiet : Quietly t u) (node : store.node ≡ Source)
    (told : IfSome t (λ _. held_by Source (seen t) ≡ Ok (held_with work store))) (holds : StoreHolds u store (held_with work store)) where
  -- it is what the disk is read as
  pub held_is : (from : Stored) → OpensOn t from → IfSome t (λ _. held_with work store ≡ from.held)
  held_is from opens =
      if_both t (held_by Source (seen t) ≡ Ok (held_with work store)) (SourceStands from (seen t)) (held_with work store ≡ from.held) told opens
      (λ is stands. same_ok (held_with work store) from.held (held_by Source (seen t)) is stands.held)

  holds_from : (from : Stored) → held_with work store ≡ from.held → StoreHolds u store from.held
  holds_from from same = subst (λ (h : Held). StoreHolds u store h) same holds

  logs_from : (from : Stored) → OpensOn t from → IfSome u (λ _. (n : ℕ) → log_in n from.held.ends (seen u) ≡ from.logs n)
  logs_from from opens =
      if_on t u (SourceStands from (seen t)) ((n : ℕ) → log_in n from.held.ends (seen u) ≡ from.logs n) quiet.on opens
      (λ stands n. ap (take (end_of n from.held.ends)) (quiet.reads (7 + n)) ∙ stands.logs n)

  module _ (v : Option Story) (works : WorksOn u v store.journal.file) (images : (held : Held) → StoreHolds u store held → Always (count u) v (StandsFor store held)) where
    -- whatever comes of the start, each image stands for it
    pub started_runs : (from : Stored) (marks : List Mark) → OpensOn t from → SourceRuns t v from [] marks marks
    started_runs from marks opens =
        told_runs t v from [] marks (on_trans t u v quiet.on works.on)
        (if_map t (held_with work store ≡ from.held) (SourceRuns t v from [] marks marks) (held_is from opens) (λ same.
        stays_runs t v from marks (stays_both t u v from (looked t u from settled opens quiet)
        (start_stays u v store from node (holds_from from same) (logs_from from opens) works (images from.held (holds_from from same))))))

    -- it is ready
    pub ready : (last : Store) → last ≡ record store { journal = last.journal } → ((held : Held) → StoreHolds u store held → Keeps v last held)
        → length store.ends.list ≤ most_logs → store.number ≤ most_committed → work.counters ≡ counters_begun (base_of work) → work.changes ≡ []
        → IsReady t v (record { work = work; store = last })
    ready last rest keeps few least counters none = record {
      on = subst (λ (h : Held). IsOn v last (stored_in h (seen t))) (sym same_held)
          (start_on u v store found node holds (if_all u ((n : ℕ) → log_in n found.held.ends (seen u) ≡ found.logs n) (λ n. ap (take (end_of n found.held.ends)) (quiet.reads (7 + n)))) works
          last same_node (keeps found.held holds) (few_ends found.held holds));
      few = omega (arith, least, ap (λ (st : Store). st.number) rest);
      counters = counters;
      none = none;
      told = if_map t (held_by Source (seen t) ≡ Ok (held_with work store)) (held_by Source (seen t) ≡ Ok (held_with work last)) told
          (λ is. is ∙ ap (λ (h : Held). Ok h) (sym same_held));
      is = λ from opens. if_map t (held_with work store ≡ from.held) ((held_with work last ≡ from.held) × IsOn v last from) (held_is from opens) (λ same. (
        same_held ∙ same,
        start_on u v store from node (holds_from from same) (logs_from from opens) works last same_node (keeps from.held (holds_from from same)) (few_ends from.held (holds_from from same)),
      ));
    }
      where
        found : Stored
        found = stored_in (held_with work store) (seen t)

        same_node : last.node ≡ store.node
        same_node = ap (λ (st : Store). st.node) rest

        same_held : held_with work last ≡ held_with work store
        same_held = ap (held_with work) rest

        few_ends : (held : Held) → StoreHolds u store held → length held.ends ≤ most_logs
        few_ends held is = omega (arith, few, ap length is.shows.ends, count_positions held.ends)
