-- A store that is read and started stays what it is.
use Rattle.std.proofs.Common.{◌≡◌, ◌<◌, ◌^◌, inl, ℕ, List, [], map, Option, Some, None, Result, Ok, Err, sym, ◌∙◌, ap, subst, refl, arith, append-nil}
use Rattle.std.specs.Prelude.{IfSome}
use Rattle.answer_text.specs.declared.report.Mark.{Mark}
use Rattle.disk_model.specs.Story.{Image, Story, count, seen}
use Rattle.disk_model.specs.declared.refusals.DiskRefusal.{DiskRefusal}
use Rattle.disk_model.specs.declared.refusals.DiskRefusal.TheVariants.{Failed, NoMemory}
use Rattle.disk_model.specs.Refusals.{refusal_of}
use Rattle.disk_model.specs.Left.{Left}
use Rattle.disk_model.specs.Moments.{Always, GoesOn}
use Rattle.disk_model.specs.Claims.{Quietly, WorksOn}
use Rattle.disk_model.proofs.Laws.{if_both, if_on}
use Rattle.disk_model.proofs.Moments.{on_trans}
use Rattle.disk_model.proofs.Putting.{since_told}
use Rattle.gate_journal.specs.Records.{records}
use Rattle.prog_work.specs.Contents.{Contents}
use Rattle.store_model.specs.declared.record.Kind.TheVariants.{Replica}
use Rattle.store_model.specs.Held.{Held, LogEnd}
use Rattle.store_model.specs.Stores.{HasLogs, first_log, held_by, journal_of}
use Rattle.store_model.proofs.Standing.{apart, still_stands, together}
use Rattle.commit_store.specs.declared.store.Store.{Store}
use Rattle.commit_store.specs.Keeping.{AreDurable, Holds, Keeps, StandsFor}
use Rattle.durable_runs.specs.Marks.{Named, replica_mark}
use Rattle.durable_runs.specs.Runs.{Runs}
use Rattle.durable_runs.specs.Replicas.{ReplicaRuns, ReplicaStands, replica_side}
use Rattle.durable_runs.proofs.Joining.{runs_join, runs_untold}
use Rattle.store_open.specs.store_load.Loading.{TellsDamage}
use Rattle.store_open.specs.Opened.{held_with}
use Rattle.store_replica.specs.Writing.{IsOn, OpensOn, StaysOn}
use Rattle.store_replica.proofs.Ends.{no_ends}
use Rattle.store_replica.proofs.Standings.{if_map, stays_both, stays_of, told_stays}

-- ---- refusals of a disk tell no damage

pub none_told : (A : Type 0) (t : Option Story) (r : DiskRefusal) → TellsDamage {A = A} t Replica (Err (refusal_of r))
none_told A t Failed = tt
none_told A t NoMemory = tt

-- ---- calls that only look

-- files that are the same but for the relay stand for the same
replica_read : (held : Held) (image other : Image) → ((f : ℕ) → f < first_log → other f ≡ image f) → ReplicaStands held image → ReplicaStands held other
replica_read held image other same stands =
    let a = apart Replica image held stands in
    together Replica other held a.0
    (still_stands Replica a.0 image other held a.1 (record { zeroth = inl (same 0 (omega arith)); first = inl (same 1 (omega arith)) })
    (ap records (same (journal_of a.0) (omega arith))) (subst (λ (ends : List LogEnd). HasLogs first_log ends other) (sym (no_ends image held stands)) refl))

pub looked : (t u : Option Story) (held : Held) → AreDurable Replica t → OpensOn t held → Quietly t u → StaysOn t u held
looked t u held durable opens quiet = record {
  on = quiet.on;
  images = since_told t u (ReplicaStands held (seen t)) (count t) (λ n image. (f : ℕ) → Left t f (image f)) (λ n image. ReplicaStands held image) quiet.on opens
      (λ stands n image le ge left. replica_read held (seen t) image (λ f low. durable f low (image f) (left f)) stands) quiet.images;
}

-- ---- a store is opened

same_ok : {A E : Type 0} (x y : A) (r : Result A E) → r ≡ Ok x → r ≡ Ok y → x ≡ y
same_ok {A} {E} x y r e f = ap (λ (q : Result A E). elim q [ Ok a ↦ a | Err error ↦ x ]) (sym e ∙ f)

-- it is what the disk is read as
pub held_is : (t : Option Story) (found held : Held) → IfSome t (λ _. held_by Replica (seen t) ≡ Ok found) → OpensOn t held → IfSome t (λ _. found ≡ held)
held_is t found held told opens =
    if_both t (held_by Replica (seen t) ≡ Ok found) (held_by Replica (seen t) ≡ Ok held) (found ≡ held) told opens
    (λ is stands. same_ok found held (held_by Replica (seen t)) is stands)

module _ (t u : Option Story) (work : Contents) (store : Store) (durable : AreDurable Replica t) (quiet : Quietly t u) (node : store.node ≡ Replica)
    (told : IfSome t (λ _. held_by Replica (seen t) ≡ Ok (held_with work store))) (holds : Holds u store (held_with work store))
    (v : Option Story) (works : WorksOn u v store.journal.file) (images : (held : Held) → Holds u store held → Always (count u) v (StandsFor store held)) where
  -- whatever comes of the start, each image stands for it
  pub started_stays : (held : Held) → OpensOn t held → StaysOn t v held
  started_stays held opens =
      told_stays t v held (on_trans t u v quiet.on works.on)
      (if_map t (held_with work store ≡ held) (StaysOn t v held) (held_is t (held_with work store) held told opens) (λ same.
      stays_both t u v held (looked t u held durable opens quiet) (stays_of store node u v held works.on (images held (subst (λ (h : Held). Holds u store h) same holds)))))

  pub started_on : (last : Store) → last ≡ record store { journal = last.journal } → ((held : Held) → Holds u store held → Keeps v last held) → store.number < 2 ^ 64
      → IsOn v last (held_with work last)
  started_on last rest keeps fits = record {
    node = ap (λ (st : Store). st.node) rest ∙ node;
    keeps = subst (λ (h : Held). Keeps v last h) (sym (ap (held_with work) rest)) (keeps (held_with work store) holds);
    fits = omega (arith, fits, ap (λ (st : Store). st.number) rest);
  }

  pub started_told : (last : Store) → last ≡ record store { journal = last.journal } → IfSome t (λ _. held_by Replica (seen t) ≡ Ok (held_with work last))
  started_told last rest =
      if_map t (held_by Replica (seen t) ≡ Ok (held_with work store)) (held_by Replica (seen t) ≡ Ok (held_with work last)) told
      (λ is. is ∙ ap (λ (h : Held). Ok h) (sym (ap (held_with work) rest)))

-- ---- and the file of what is fetched is emptied

-- what is claimed of a disk that tells is claimed of each
told_runs : (t u : Option Story) (held : Held) (marks : List Mark) → GoesOn t u → IfSome t (λ _. ReplicaRuns t u held [] marks marks) → ReplicaRuns t u held [] marks marks
told_runs None None held marks on told =
    subst (λ (b : List Named). Runs replica_side None None held [] (map replica_mark marks) b) (append-nil (map replica_mark marks))
    (runs_untold replica_side held [] (map replica_mark marks) [])
told_runs None (Some u) held marks on told = absurd on
told_runs (Some t) u held marks on told = told

pub opened_runs : (t u v : Option Story) (store : Store) (found held : Held) (marks : List Mark) → ReplicaRuns t u held [] marks marks → GoesOn u v
    → IfSome t (λ _. held_by Replica (seen t) ≡ Ok found) → OpensOn t held → IsOn u store found
    → ((h : Held) (ms : List Mark) → IsOn u store h → ReplicaRuns u v h [] ms ms) → ReplicaRuns t v held [] marks marks
opened_runs t u v store found held marks before on told opens there then =
    told_runs t v held marks (on_trans t u v before.on on)
    (if_map t (found ≡ held) (ReplicaRuns t v held [] marks marks) (held_is t found held told opens) (λ same.
    runs_join replica_side t u v held held [] [] (map replica_mark marks) (map replica_mark marks) (map replica_mark marks) before refl
    (then held marks (subst (λ (h : Held). IsOn u store h) same there))))

pub emptied : (t u : Option Story) → GoesOn t u → IfSome t (λ _. seen u first_log ≡ []) → IfSome u (λ _. seen u first_log ≡ [])
emptied t u on told = if_on t u (seen u first_log ≡ []) (seen u first_log ≡ []) on told (λ is. is)
