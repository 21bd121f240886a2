-- A group more that was carried out in memory, kept on the disk.
use Rattle.std.proofs.Common.{◌≡◌, ℕ, ◌+◌, Bool, [], ◌∷◌, length, map, Option, Some, None, Result, Ok, Err, refl, sym, ◌∙◌, ap, subst, arith}
use Rattle.std.specs.Prelude.{IfSome, IfOk}
use Rattle.port_traits.specs.declared.identity.Identity.{Identity}
use Rattle.port_traits.specs.declared.identity.Draw.{Draw}
use Rattle.answer_text.specs.declared.report.Mark.{Mark}
use Rattle.answer_text.specs.declared.report.Report.{Report}
use Rattle.disk_model.specs.Story.{Story, count, seen}
use Rattle.disk_model.specs.Moments.{GoesOn}
use Rattle.disk_model.proofs.Laws.{if_on}
use Rattle.disk_model.proofs.Moments.{on_count, on_refl, on_trans}
use Rattle.commit_store.specs.declared.prepared.Prepared.{Prepared}
use Rattle.commit_store.specs.declared.store.Store.{Store}
use Rattle.store_checkpoints.specs.store_replica.durable_runs.Marks.{replica_mark}
use Rattle.store_checkpoints.specs.store_replica.durable_runs.Replicas.{CarriesTo, ReplicaRuns, replica_side}
use Rattle.store_checkpoints.specs.store_replica.durable_runs.Runs.{CallsFit}
use Rattle.store_checkpoints.proofs.of_store_replica.of_durable_runs.Joining.{runs_none}
use Rattle.store_checkpoints.proofs.of_store_replica.of_durable_runs.States.{carries_join, carries_none, carries_one}
use Rattle.replica_node.specs.replica_model.Applying.{Going, apply}
use Rattle.replica_node.specs.replica_model.Replica.{Replica}
use Rattle.replica_node.specs.Kept.{held_of, replica_of}
use Rattle.replica_node.specs.Records.{RecordLeads}
use Rattle.replica_node.specs.Steps.{IsFront, IsTold}
use Rattle.replica_node.specs.declared.told.Applied.{Applied}
use Rattle.store_model.specs.declared.record.Record.{Record}
use Rattle.store_model.specs.Held.{Held}
use Rattle.store_model.specs.Stores.{first_log}
use Rattle.store_checkpoints.specs.store_replica.Pushed.{ArePushed}
use Rattle.store_checkpoints.specs.store_replica.Writing.{CanKeep, IsCounted, IsOn}
use Rattle.store_checkpoints.proofs.of_store_replica.Standings.{each_stands}
use Rattle.durable_replica.specs.Going.{HasKept, HasRun, IsDone}
use Rattle.durable_replica.specs.Standing.{IsStateOf}
use Rattle.durable_replica.specs.declared.replica.DurableReplica.{DurableReplica}
use Rattle.durable_replica.proofs.Marks.{none_pushed, pushed_join}

pub ok_map : {A E : Type 0} (r : Result A E) {P Q : A → Type 0} → IfOk r P → ((a : A) → P a → Q a) → IfOk r Q
ok_map (Ok a) p f = f a p
ok_map (Err e) p f = tt

-- no more calls than a mark can say had been made before
fits_back : (t u : Option Story) → GoesOn t u → CallsFit u → CallsFit t
fits_back None u on fits = tt
fits_back (Some s) None on fits = absurd on
fits_back (Some s) (Some u) on fits = omega (arith, fits, on_count (Some s) (Some u) on)

module _ (wanted : ℕ) (identity : Identity) (draw : Draw) (first : Replica) (t : Option Story) (before : Report) where
  abbrev State : Held → Type 0
  State = IsStateOf wanted identity draw first

  abbrev Kept : (u : Option Story) (now : Replica) (store : Store) (fetched : ℕ) (after : Report) (count : ℕ) → Type 0
  Kept u now store fetched after count = HasKept wanted identity draw first t before u now store fetched after count

  -- what the replica is behind some steps is a state
  state_of : (now : Replica) → IsFront wanted identity draw first now → State (held_of now)
  state_of now front = (front.0, ap held_of front.1)

  -- nothing was carried out yet
  pub begins : (store : Store) (fetched : ℕ) → IsOn t store (held_of first) → IfSome t (λ _. length (seen t first_log) ≡ fetched) → Kept t first store fetched before 0
  begins store fetched on relay = record {
    on = on;
    relay = relay;
    reaches = λ fits. carries_none State t t (held_of first) before.marks before.marks (0, refl)
        (runs_none replica_side t (held_of first) (map replica_mark before.marks) (each_stands t store (held_of first) on));
    pushed = none_pushed before.now first.number store.number before.marks (sym on.keeps.holds.shows.number);
    marks = omega arith;
    rest = refl;
    goes = on_refl t;
  }

  module _ (u : Option Story) (now : Replica) (store : Store) (fetched : ℕ) (after : Report) (count : ℕ) (kept : Kept u now store fetched after count) where
    -- a step that leaves the replica as it is
    pub same_kept : (now' : Replica) → now' ≡ now → Kept u now' store fetched after count
    same_kept now' same = subst (λ (r : Replica). Kept u r store fetched after count) (sym same) kept

    pub run_of : HasRun wanted identity draw first t before u store.number after
    run_of = record { carries = λ fits. (kept.reaches fits).carries; pushed = kept.pushed; rest = kept.rest; goes = kept.goes }

    -- it comes to its end
    pub done : (k : DurableReplica) (told : Applied) (end : Going) → apply wanted identity draw first ≡ end → replica_of k.node ≡ end.replica → k.store ≡ store → k.fetched ≡ fetched
        → now ≡ end.replica → told.count ≡ count → IsTold told (apply wanted identity draw first) → IsDone wanted identity draw first t before u k after told
    done k told end all node same_store same_fetched here same_count is = record {
      replica = node ∙ sym (ap (λ (g : Going). g.replica) all);
      told = is;
      kept =
          subst (λ (n : ℕ). Kept u (replica_of k.node) k.store k.fetched after n) (sym same_count)
          (subst (λ (f : ℕ). Kept u (replica_of k.node) k.store f after count) (sym same_fetched)
          (subst (λ (s : Store). Kept u (replica_of k.node) s fetched after count) (sym same_store)
          (same_kept (replica_of k.node) (node ∙ sym here))));
    }

    -- a record more
    module _ (now' : Replica) (p : Prepared) (counts : Bool) (leads : RecordLeads p (held_of now) (held_of now')) (counted : IsCounted counts (held_of now) (held_of now')) where
      can : CanKeep u store p leads.of (held_of now) (held_of now')
      can = record { on = kept.on; form = leads.is.form; fits = leads.is.fits; makes = leads.makes; prepared = leads.is.made }

      pub can_keep : (r : Record) × ((held : Held) × ((next : Held) × (CanKeep u store p r held next × IsCounted counts held next)))
      can_keep = (leads.of, (held_of now, (held_of now', (can, counted))))

      module _ (v : Option Story) (store' : Store) (after' : Report) (goes : GoesOn u v)
          (run : (r : Record) (held next : Held) → CanKeep u store p r held next → CallsFit v → ReplicaRuns u v held (r ∷ []) after.marks after'.marks)
          (pushed : (r : Record) (held next : Held) → CanKeep u store p r held next → IsCounted counts held next
          → ArePushed after.now held.number store'.number after.marks after'.marks) (rest : after' ≡ record after { marks = after'.marks })
          (front : IsFront wanted identity draw first now) (front' : IsFront wanted identity draw first now') where
        more_reaches : CallsFit v → CarriesTo State t v (held_of first) (held_of now') before.marks after'.marks
        more_reaches fits =
            carries_join State t u v (held_of first) (held_of now) (held_of now') before.marks after.marks after'.marks (kept.reaches (fits_back u v goes fits))
            (carries_one State u v (held_of now) (held_of now') leads.of after.marks after'.marks (state_of now front) (state_of now' front') leads.makes
            (run leads.of (held_of now) (held_of now') can fits))

        more_pushed : ArePushed before.now first.number store'.number before.marks after'.marks
        more_pushed =
            pushed_join before.now first.number store.number store'.number before.marks after.marks after'.marks kept.pushed
            (subst (λ (n : ℕ). ArePushed before.now n store'.number after.marks after'.marks) (sym kept.on.keeps.holds.shows.number)
            (subst (λ (m : Mark). ArePushed m now.number store'.number after.marks after'.marks) (ap (λ (r : Report). r.now) kept.rest)
            (pushed leads.of (held_of now) (held_of now') can counted)))

        more_rest : after' ≡ record before { marks = after'.marks }
        more_rest = rest ∙ ap (λ (r : Report). record r { marks = after'.marks }) kept.rest

        -- whatever came of it
        pub more_run : HasRun wanted identity draw first t before v store'.number after'
        more_run = record { carries = λ fits. (more_reaches fits).carries; pushed = more_pushed; rest = more_rest; goes = on_trans t u v kept.goes goes }

        -- where it was kept
        pub more_kept : (count' : ℕ) → ((r : Record) (held next : Held) → CanKeep u store p r held next → IsOn v store' next) → seen v first_log ≡ seen u first_log
            → length after'.marks + count ≡ length after.marks + count' → Kept v now' store' fetched after' count'
        more_kept count' on reads marks = record {
          on = on leads.of (held_of now) (held_of now') can;
          relay = if_on u v (length (seen u first_log) ≡ fetched) (length (seen v first_log) ≡ fetched) goes kept.relay (λ e. ap length reads ∙ e);
          reaches = more_reaches;
          pushed = more_pushed;
          marks = omega (arith, marks, kept.marks);
          rest = more_rest;
          goes = on_trans t u v kept.goes goes;
        }
