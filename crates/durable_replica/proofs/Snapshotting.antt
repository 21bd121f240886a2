-- A replica whose store is written as a snapshot.
use Rattle.std.proofs.Common.{◌≡◌, List, [], length, Option, Result, Ok, Err, sym, ◌∙◌, ap, subst}
use Rattle.std.specs.Prelude.{OnOk}
use Rattle.answer_text.specs.declared.report.Mark.{Mark}
use Rattle.disk_model.specs.Story.{Story, count, seen}
use Rattle.disk_model.specs.Moments.{Always, GoesOn}
use Rattle.disk_model.proofs.Laws.{if_on}
use Rattle.table_rules.specs.Stores.{IsWhole, Store as Rows, definitions_of}
use Rattle.replica_node.specs.Kept.{Kept, held_of, replica_of}
use Rattle.store_checkpoints.specs.Asking.{ReplicaCan}
use Rattle.store_checkpoints.specs.snapshot_bodies.catalog_show_create.catalog_objects.Keys.{objects_of}
use Rattle.store_checkpoints.specs.snapshot_bodies.catalog_show_create.catalog_objects.declared.object.Object.{Object}
use Rattle.store_checkpoints.specs.snapshot_bodies.catalog_show_create.catalog_rules.Bases.{Base, definitions_in}
use Rattle.store_checkpoints.proofs.Tables.{base_is_kept, tables_are_theirs}
use Rattle.store_model.specs.Stores.{first_log}
use Rattle.store_checkpoints.specs.store_replica.durable_runs.Replicas.{ReplicaRuns, ReplicaStands}
use Rattle.store_checkpoints.specs.store_replica.Writing.{IsOn}
use Rattle.store_checkpoints.proofs.of_store_replica.Standings.{stays_runs}
use Rattle.durable_replica.specs.Standing.{IsOnDisk}
use Rattle.durable_replica.specs.declared.replica.DurableReplica.{DurableReplica}

module _ (t : Option Story) (k : DurableReplica) (is : IsOnDisk t k) where
  abbrev pub base_now : Base
  base_now = (replica_of k.node).base

  pub can_checkpoint : (rows : Rows) (objects : List Object) → rows.committed ≡ base_now.tables → definitions_of rows.tables ≡ definitions_in base_now.catalog
      → IsWhole rows → objects_of objects ≡ base_now.catalog → ReplicaCan t k.store rows objects (held_of (replica_of k.node))
  can_checkpoint rows objects committed theirs whole catalog = record {
    on = is.on;
    base = base_is_kept rows objects base_now catalog committed;
    tables = tables_are_theirs rows objects base_now catalog committed theirs whole;
  }

  -- behind it its disk has the same, and the relay's file, too
  pub on_still : {A E : Type 0} (r : Result A E) (u : Option Story) (new : DurableReplica) → new.node ≡ k.node → new.fetched ≡ k.fetched → GoesOn t u
      → seen u first_log ≡ seen t first_log → OnOk r (IsOn u new.store (held_of (replica_of k.node))) → OnOk r (IsOnDisk u new)
  on_still (Err e) u new node fetched goes relay on = tt
  on_still (Ok x) u new node fetched goes relay on = record {
    on = subst (λ (n : Kept). IsOn u new.store (held_of (replica_of n))) (sym node) on;
    relay = if_on t u (length (seen t first_log) ≡ k.fetched) (length (seen u first_log) ≡ new.fetched) goes is.relay (λ e. ap length relay ∙ e ∙ sym fetched);
  }

  pub still_runs : (u : Option Story) (marks : List Mark) → GoesOn t u → Always (count t) u (ReplicaStands (held_of (replica_of k.node)))
      → ReplicaRuns t u (held_of (replica_of k.node)) [] marks marks
  still_runs u marks goes images = stays_runs t u (held_of (replica_of k.node)) marks (record { on = goes; images = images })
