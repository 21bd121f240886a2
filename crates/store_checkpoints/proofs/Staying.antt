-- What a source and a replica have on their disks stays at a checkpoint.
use Rattle.std.proofs.Common.{◌≡◌, ◌≢◌, ◌⊎◌, inl, inr, ℕ, ◌+◌, ◌<◌, ◌^◌, List, take, Option, Result, Ok, Err, refl, sym, ◌∙◌, ap, subst, arith}
use Rattle.std.specs.Prelude.{IfSome, OnOk}
use Rattle.std.proofs.lemmas.Bool.{cases_eq}
use Rattle.disk_model.specs.Story.{Image, Story, count, seen}
use Rattle.disk_model.specs.Left.{Left}
use Rattle.disk_model.specs.Moments.{Always, GoesOn}
use Rattle.disk_model.proofs.Laws.{if_on}
use Rattle.disk_model.proofs.Putting.{since_told}
use Rattle.disk_model.proofs.Moments.{on_refl, since_map, since_start}
use Rattle.table_rules.specs.Stores.{Store as Rows}
use Rattle.snapshot_bodies.specs.catalog_show_create.catalog_objects.declared.object.Object.{Object}
use Rattle.store_model.specs.declared.record.Kind.{Kind}
use Rattle.store_model.specs.declared.record.Kind.TheVariants.{Source, Replica}
use Rattle.store_model.specs.Held.{Held}
use Rattle.store_model.specs.Stores.{first_log, held_by, journal_of, Stands}
use Rattle.store_model.proofs.Standing.{together}
use Rattle.commit_store.specs.declared.store.Store.{Store}
use Rattle.commit_store.specs.Keeping.{IsKept, Keeps}
use Rattle.store_source.specs.durable_runs.Sources.{SourceStands, Stored, end_of, log_in}
use Rattle.store_source.specs.durable_runs.Replicas.{ReplicaStands}
use Rattle.store_source.specs.Writing.{IsOn as SourceIsOn, StaysOn}
use Rattle.store_replica.specs.Writing.{IsOn as ReplicaIsOn}
use Rattle.checkpoint_model.specs.Pieces.{last_generation, snapshot_file}
use Rattle.checkpoint_model.specs.Moments.{StandsEither}
use Rattle.checkpoint.specs.checkpoint_pieces.Working.{WorksOnBoth}
use Rattle.checkpoint.specs.Checkpoints.{CanCheckpoint, HasSizes}
use Rattle.checkpoint.specs.checkpoint_pieces.Newest.{IsReadAgain}
use Rattle.store_source.proofs.Images.{no_call}
use Rattle.store_replica.proofs.Standings.{each_stands as each_held}
use Rattle.store_checkpoints.specs.Asking.{ReplicaCan, SourceCan}
use Rattle.store_checkpoints.proofs.Again.{WillBeRead, not_last}

-- an image that stands at either generation holds what is held
either_holds : (kind node : Kind) (g : ℕ) (held : Held) (image : Image) → node ≡ kind → StandsEither node g held image → held_by kind image ≡ Ok held
either_holds kind node g held image is (inl stands) = together kind image held g (subst (λ (k : Kind). Stands k g image held) is stands)
either_holds kind node g held image is (inr stands) = together kind image held (g + 1) (subst (λ (k : Kind). Stands k (g + 1) image held) is stands)

-- where a call ended well
pub on_ok : {A E X Y : Type 0} (r : Result A E) → OnOk r X → (X → Y) → OnOk r Y
on_ok (Ok a) x f = f x
on_ok (Err e) x f = tt

-- where the disk tells, it stands for what it keeps, as its own kind of store
told_as : (t : Option Story) (kind : Kind) (store : Store) (held : Held) → store.node ≡ kind → Keeps t store held → IfSome t (λ _. Stands kind store.generation (seen t) held)
told_as t kind store held is keeps = subst (λ (k : Kind). IfSome t (λ _. Stands k store.generation (seen t) held)) is keeps.holds.stands

pub source_told : (t : Option Story) (store : Store) (s : Stored) → SourceIsOn t store s → IfSome t (λ _. Stands Source store.generation (seen t) s.held)
source_told t store s on = told_as t Source store s.held on.node on.keeps

pub replica_told : (t : Option Story) (store : Store) (held : Held) → ReplicaIsOn t store held → IfSome t (λ _. Stands Replica store.generation (seen t) held)
replica_told t store held on = told_as t Replica store held on.node on.keeps

will_be_read : (t : Option Story) (kind node : Kind) (generation : ℕ) (held : Held) → node ≡ kind → IfSome t (λ _. WillBeRead kind generation held)
    → IfSome t (λ _. HasSizes node generation held → IsReadAgain node generation held)
will_be_read t kind node generation held is = subst (λ (k : Kind). IfSome t (λ _. WillBeRead k generation held)) (sym is)

module _ (t : Option Story) (store : Store) (tables : Rows) (objects : List Object) (s : Stored) (can : SourceCan t store tables objects s) where
  source_can : IfSome t (λ _. WillBeRead Source (store.generation + 1) s.held) → CanCheckpoint t store tables objects s.held
  source_can again = record {
    keeps = can.on.keeps;
    base = can.base;
    again = will_be_read t Source store.node (store.generation + 1) s.held can.on.node again;
  }

  abbrev pub f : ℕ
  f = snapshot_file (store.generation + 1)

  abbrev pub j : ℕ
  j = journal_of (store.generation + 1)

  not_f : (n : ℕ) → 7 + n ≢ f
  not_f n e = absurd (omega (arith, e))

  not_j : (n : ℕ) → 7 + n ≢ j
  not_j n e = absurd (omega (arith, e))

  kept : (x : ℕ) → IsKept store.node x
  kept x = subst (λ (k : Kind). IsKept k x) (sym can.on.node) tt

  source_worked : (u : Option Story) → WorksOnBoth t u f j (StandsEither store.node store.generation s.held) → StaysOn t u s
  source_worked u works = record {
    on = works.on;
    images = since_told t u ((n : ℕ) → log_in n s.held.ends (seen t) ≡ s.logs n) (count t)
        (λ n image. StandsEither store.node store.generation s.held image × ((x : ℕ) → x ≢ f → x ≢ j → Left t x (image x))) (λ n image. SourceStands s image)
        works.on can.on.logs
        (λ logs n image le ge h. record {
          held = either_holds Source store.node store.generation s.held image can.on.node h.0;
          logs = λ k. ap (λ file. take (end_of k s.held.ends) file) (can.on.keeps.holds.durable (7 + k) (kept (7 + k)) (image (7 + k)) (h.1 (7 + k) (not_f k) (not_j k))) ∙ logs k;
        }) works.images;
  }

  source_moved : (u : Option Story) (now : Store) → WorksOnBoth t u f j (StandsEither store.node store.generation s.held) → now.node ≡ store.node → Keeps u now s.held → SourceIsOn u now s
  source_moved u now works node keeps = record {
    node = node ∙ can.on.node;
    keeps = keeps;
    few = can.on.few;
    logs = if_on t u ((n : ℕ) → log_in n s.held.ends (seen t) ≡ s.logs n) ((n : ℕ) → log_in n s.held.ends (seen u) ≡ s.logs n) works.on can.on.logs
        (λ logs n. ap (λ file. take (end_of n s.held.ends) file) (works.reads (7 + n) (not_f n) (not_j n)) ∙ logs n);
  }

  -- whether there is a next generation or not
  module _ (fits : store.generation < 2 ^ 64) (again : store.generation + 1 < 2 ^ 64 → IfSome t (λ _. WillBeRead Source (store.generation + 1) s.held)) (u : Option Story) where
    pub source_stays : (CanCheckpoint t store tables objects s.held → WorksOnBoth t u f j (StandsEither store.node store.generation s.held))
        → (store.generation ≡ last_generation → u ≡ t) → StaysOn t u s
    source_stays works last = by (cases_eq store.generation last_generation)
      where
        by : (store.generation ≡ last_generation) ⊎ (store.generation ≡ last_generation → ⊥) → StaysOn t u s
        by (inl is) = subst (λ (v : Option Story). StaysOn t v s) (sym (last is)) (no_call t store s can.on)
        by (inr not) = source_worked u (works (source_can (again (not_last store.generation fits not))))

    pub source_on : {A E : Type 0} (r : Result A E) (now : Store) → (CanCheckpoint t store tables objects s.held → WorksOnBoth t u f j (StandsEither store.node store.generation s.held))
        → (CanCheckpoint t store tables objects s.held → OnOk r (Keeps u now s.held)) → now.node ≡ store.node
        → (store.generation ≡ last_generation → (u ≡ t) × (now ≡ store)) → OnOk r (SourceIsOn u now s)
    source_on (Err e) now works keeps node last = tt
    source_on (Ok x) now works keeps node last = by (cases_eq store.generation last_generation)
      where
        by : (store.generation ≡ last_generation) ⊎ (store.generation ≡ last_generation → ⊥) → SourceIsOn u now s
        by (inl is) = subst (λ (v : Option Story). SourceIsOn v now s) (sym (last is).0) (subst (λ (k : Store). SourceIsOn t k s) (sym (last is).1) can.on)
        by (inr not) =
            let able = source_can (again (not_last store.generation fits not)) in
            source_moved u now (works able) node (keeps able)

module _ (t : Option Story) (store : Store) (tables : Rows) (objects : List Object) (held : Held) (can : ReplicaCan t store tables objects held) where
  abbrev pub Worked : Option Story → Type 0
  Worked u = WorksOnBoth t u (snapshot_file (store.generation + 1)) (journal_of (store.generation + 1)) (StandsEither store.node store.generation held)

  replica_can : IfSome t (λ _. WillBeRead Replica (store.generation + 1) held) → CanCheckpoint t store tables objects held
  replica_can again = record {
    keeps = can.on.keeps;
    base = can.base;
    again = will_be_read t Replica store.node (store.generation + 1) held can.on.node again;
  }

  replica_worked : (u : Option Story) → Worked u → Always (count t) u (ReplicaStands held)
  replica_worked u works = since_map (count t) u
      (λ n image. StandsEither store.node store.generation held image × ((x : ℕ) → x ≢ snapshot_file (store.generation + 1) → x ≢ journal_of (store.generation + 1) → Left t x (image x)))
      (λ n image. ReplicaStands held image) (λ n image le ge h. either_holds Replica store.node store.generation held image can.on.node h.0) works.images

  not_snapshot : first_log ≢ snapshot_file (store.generation + 1)
  not_snapshot e = absurd (omega (arith, e))

  not_journal : first_log ≢ journal_of (store.generation + 1)
  not_journal e = absurd (omega (arith, e))

  -- whether there is a next generation or not
  module _ (fits : store.generation < 2 ^ 64) (again : store.generation + 1 < 2 ^ 64 → IfSome t (λ _. WillBeRead Replica (store.generation + 1) held)) (u : Option Story)
      (works : CanCheckpoint t store tables objects held → Worked u) where
    replica_cases : (X : Option Story → Type 0) → (Worked u → X u) → (store.generation ≡ last_generation → u ≡ t) → X t → X u
    replica_cases X worked last same = by (cases_eq store.generation last_generation)
      where
        by : (store.generation ≡ last_generation) ⊎ (store.generation ≡ last_generation → ⊥) → X u
        by (inl is) = subst X (sym (last is)) same
        by (inr not) = worked (works (replica_can (again (not_last store.generation fits not))))

    pub replica_goes : (store.generation ≡ last_generation → u ≡ t) → GoesOn t u
    replica_goes last = replica_cases (λ v. GoesOn t v) (λ worked. worked.on) last (on_refl t)

    pub replica_stays : (store.generation ≡ last_generation → u ≡ t) → Always (count t) u (ReplicaStands held)
    replica_stays last = replica_cases (λ v. Always (count t) v (ReplicaStands held)) (replica_worked u) last
        (since_start t (λ n image. ReplicaStands held image) (each_held t store held can.on))

    pub replica_fetched : (store.generation ≡ last_generation → u ≡ t) → seen u first_log ≡ seen t first_log
    replica_fetched last = replica_cases (λ v. seen v first_log ≡ seen t first_log) (λ worked. worked.reads first_log not_snapshot not_journal) last refl

    pub replica_on : {A E : Type 0} (r : Result A E) (now : Store) → (CanCheckpoint t store tables objects held → OnOk r (Keeps u now held)) → now.node ≡ store.node
        → (store.generation ≡ last_generation → (u ≡ t) × (now ≡ store)) → OnOk r (ReplicaIsOn u now held)
    replica_on (Err e) now keeps node last = tt
    replica_on (Ok x) now keeps node last = by (cases_eq store.generation last_generation)
      where
        by : (store.generation ≡ last_generation) ⊎ (store.generation ≡ last_generation → ⊥) → ReplicaIsOn u now held
        by (inl is) = subst (λ (v : Option Story). ReplicaIsOn v now held) (sym (last is).0) (subst (λ (k : Store). ReplicaIsOn t k held) (sym (last is).1) can.on)
        by (inr not) = record { node = node ∙ can.on.node; keeps = keeps (replica_can (again (not_last store.generation fits not))); fits = can.on.fits }
