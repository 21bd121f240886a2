-- What each moment of a replica's disk leaves.
use Rattle.std.proofs.Common.{◌≡◌, ◌≢◌, ◌⊎◌, inl, inr, ℕ, ◌<◌, ◌≤◌, ◌^◌, List, [], ◌∷◌, length, map, Option, Some, None, Ok, ◌∙◌, ap, subst, arith}
use Rattle.std.specs.Prelude.{IfSome}
use Rattle.std.specs.Option.{option_and_then}
use Rattle.answer_text.specs.declared.report.Mark.{Mark}
use Rattle.disk_model.specs.Story.{Image, Story, count, seen}
use Rattle.disk_model.specs.Moments.{Always, Each, GoesOn}
use Rattle.disk_model.specs.Claims.{WorksOn}
use Rattle.disk_model.proofs.Laws.{by_left}
use Rattle.disk_model.proofs.Moments.{on_refl, on_trans, on_count, since_join, since_map, since_none, since_start}
use Rattle.gate_journal.specs.Records.{records}
use Rattle.store_model.specs.declared.record.Kind.{Kind}
use Rattle.store_model.specs.declared.record.Kind.TheVariants.{Replica}
use Rattle.store_model.specs.declared.record.Record.{Record}
use Rattle.store_model.specs.Held.{Held, applied}
use Rattle.store_model.specs.Stores.{first_log, held_by, journal_of, Stands}
use Rattle.store_model.proofs.Standing.{together}
use Rattle.commit_store.specs.declared.store.Store.{Store}
use Rattle.commit_store.specs.Keeping.{Either, Holds, StandsFor}
use Rattle.commit_store.proofs.Elsewhere.{fetched_may_change}
use Rattle.commit_store.proofs.Standing.{same_stands}
use Rattle.durable_runs.specs.Marks.{replica_mark}
use Rattle.durable_runs.specs.Runs.{behind_steps}
use Rattle.durable_runs.specs.Replicas.{ReplicaRuns, ReplicaStands, replica_side}
use Rattle.durable_runs.proofs.Carrying.{replicas_rise}
use Rattle.durable_runs.proofs.Joining.{runs_kept}
use Rattle.store_replica.specs.Writing.{IsOn, LeadsTo, OpensOn, StaysOn}

-- ---- claims

pub if_map : (t : Option Story) (X Y : Type 0) → IfSome t (λ _. X) → (X → Y) → IfSome t (λ _. Y)
if_map None X Y told f = tt
if_map (Some s) X Y told f = f told

abbrev Two : Held → Held → Image → Type 0
Two held now image = ReplicaStands held image ⊎ ReplicaStands now image

pub stays_leads : (t u : Option Story) (held now : Held) → StaysOn t u held → LeadsTo t u held now
stays_leads t u held now stays =
    record { on = stays.on; images = since_map (count t) u (λ n image. ReplicaStands held image) (λ n image. Two held now image) (λ n image le ge stands. inl stands) stays.images }

pub stays_then : (t u v : Option Story) (held now : Held) → StaysOn t u held → LeadsTo u v held now → LeadsTo t v held now
stays_then t u v held now stays leads = record {
  on = on_trans t u v stays.on leads.on;
  images = since_join (count t) u v (λ n image. Two held now image) (on_count t u stays.on) leads.on (stays_leads t u held now stays).images leads.images;
}

pub stays_both : (t u v : Option Story) (held : Held) → StaysOn t u held → StaysOn u v held → StaysOn t v held
stays_both t u v held p q = record {
  on = on_trans t u v p.on q.on;
  images = since_join (count t) u v (λ n image. ReplicaStands held image) (on_count t u p.on) q.on p.images q.images;
}

-- calls that leave what a replica has are a run of no record
pub stays_runs : (t u : Option Story) (held : Held) (marks : List Mark) → StaysOn t u held → ReplicaRuns t u held [] marks marks
stays_runs t u held marks stays = runs_kept replica_side t u held (map replica_mark marks) stays.on stays.images

-- what is claimed of a disk that tells is claimed of each
pub told_stays : (t u : Option Story) (held : Held) → GoesOn t u → IfSome t (λ _. StaysOn t u held) → StaysOn t u held
told_stays None None held on told = record { on = on; images = since_none 0 (λ n image. ReplicaStands held image) }
told_stays None (Some u) held on told = absurd on
told_stays (Some t) u held on told = told

-- ---- a record makes a number that is no less, and is one of 64 bits

pub one_rises : (r : Record) (held now : Held) → held.number < 2 ^ 64 → applied r held ≡ Some now → (held.number ≤ now.number) × (now.number < 2 ^ 64)
one_rises r held now fits makes = replicas_rise (r ∷ []) held now fits (ap (option_and_then (behind_steps replica_side [])) makes)

-- ---- a replica's store

module _ (store : Store) (node : store.node ≡ Replica) where
  pub held_in : (held : Held) (image : Image) → StandsFor store held image → ReplicaStands held image
  held_in held image stands = together Replica image held store.generation (subst (λ (k : Kind). Stands k store.generation image held) node stands)

  pub stays_of : (t u : Option Story) (held : Held) → GoesOn t u → Always (count t) u (StandsFor store held) → StaysOn t u held
  stays_of t u held on always =
      record { on = on; images = since_map (count t) u (λ n image. StandsFor store held image) (λ n image. ReplicaStands held image) (λ n image le ge stands. held_in held image stands) always }

  pub leads_of : (t u : Option Story) (held now : Held) → GoesOn t u → Always (count t) u (Either store held now) → LeadsTo t u held now
  leads_of t u held now on always =
      record { on = on; images = since_map (count t) u (λ n image. Either store held now image) (λ n image. Two held now image) (λ n image le ge either. by image either) always }
    where
      by : (image : Image) → Either store held now image → Two held now image
      by image (inl stands) = inl (held_in held image stands)
      by image (inr stands) = inr (held_in now image stands)

-- a file can be cut to nothing
pub cut_whole : (t : Option Story) (f : ℕ) → IfSome t (λ _. 0 ≤ length (seen t f))
cut_whole None f = tt
cut_whole (Some s) f = omega arith

-- the journal is another file than that of what is fetched
pub apart_from : (t : Option Story) (store : Store) (held : Held) → Holds t store held → first_log ≢ store.journal.file
apart_from t store held holds same = let at : first_log ≡ journal_of store.generation = same ∙ holds.file in absurd (omega arith)

module _ (t : Option Story) (store : Store) (held : Held) (on : IsOn t store held) where
  pub opens_now : OpensOn t held
  opens_now = if_map t (StandsFor store held (seen t)) (held_by Replica (seen t) ≡ Ok held) on.keeps.holds.stands (λ stands. held_in store on.node held (seen t) stands)

  -- a crash now leaves what the replica has
  pub each_stands : Each t (ReplicaStands held)
  each_stands image left =
      by_left t 0 (image 0) (ReplicaStands held image)
      (if_map t (StandsFor store held (seen t)) (ReplicaStands held image) on.keeps.holds.stands (λ stands.
      held_in store on.node held image
      (same_stands t store held on.keeps.holds image (λ g kept ne. on.keeps.holds.durable g kept (image g) (left g)) stands (ap records (on.keeps.rests.durable (image store.journal.file) (left store.journal.file))))))
      (left 0)

  pub no_call : StaysOn t t held
  no_call = record { on = on_refl t; images = since_start t (λ n image. ReplicaStands held image) each_stands }

  -- what is fetched is worked on
  module _ (u : Option Story) (works : WorksOn t u first_log) where
    pub relay_on : IsOn u store held
    relay_on = record { node = on.node; keeps = (fetched_may_change t u store held first_log on.keeps on.node (omega arith) works).1; fits = on.fits }

    pub relay_stays : StaysOn t u held
    relay_stays = stays_of store on.node t u held works.on (fetched_may_change t u store held first_log on.keeps on.node (omega arith) works).0

    pub relay_runs : (marks : List Mark) → ReplicaRuns t u held [] marks marks
    relay_runs marks = stays_runs t u held marks relay_stays
