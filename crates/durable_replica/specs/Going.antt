-- An APPLY on its way, in memory and on the disk.
use Rattle.std.specs.Prelude.{◌≡◌, ℕ, ◌+◌, length, Option, IfSome}
use Rattle.port_traits.specs.declared.identity.Identity.{Identity}
use Rattle.port_traits.specs.declared.identity.Draw.{Draw}
use Rattle.answer_text.specs.declared.report.Report.{Report}
use Rattle.disk_model.specs.Story.{Story, seen}
use Rattle.disk_model.specs.Moments.{GoesOn}
use Rattle.commit_store.specs.declared.store.Store.{Store}
use Rattle.store_checkpoints.specs.store_replica.durable_runs.Replicas.{Carries, CarriesTo}
use Rattle.store_checkpoints.specs.store_replica.durable_runs.Runs.{CallsFit}
use Rattle.replica_node.specs.replica_model.Applying.{apply}
use Rattle.replica_node.specs.replica_model.Replica.{Replica}
use Rattle.replica_node.specs.Kept.{held_of, replica_of}
use Rattle.replica_node.specs.Steps.{IsTold}
use Rattle.replica_node.specs.declared.told.Applied.{Applied}
use Rattle.store_model.specs.Stores.{first_log}
use Rattle.store_checkpoints.specs.store_replica.Pushed.{ArePushed}
use Rattle.store_checkpoints.specs.store_replica.Writing.{IsOn}
use Rattle.durable_replica.specs.Standing.{IsStateOf}
use Rattle.durable_replica.specs.declared.replica.DurableReplica.{DurableReplica}

module _ (wanted : ℕ) (identity : Identity) (draw : Draw) (first : Replica) (t : Option Story) (before : Report) where
  -- Whatever came of it: its calls are a run over records behind each of which the store holds what the replica is behind some of its
  -- steps, and its marks were pushed, up to this number.
  pub record HasRun (u : Option Story) (number : ℕ) (after : Report) : Type 0 where
    pub carries : CallsFit u → Carries (IsStateOf wanted identity draw first) t u (held_of first) before.marks after.marks
    pub pushed : ArePushed before.now first.number number before.marks after.marks
    pub rest : after ≡ record before { marks = after.marks }
    pub goes : GoesOn t u

  -- So many groups were carried out, and the disk has what the replica is now.
  pub record HasKept (u : Option Story) (now : Replica) (store : Store) (fetched : ℕ) (after : Report) (count : ℕ) : Type 0 where
    pub on : IsOn u store (held_of now)
    pub relay : IfSome u (λ _. length (seen u first_log) ≡ fetched)
    pub reaches : CallsFit u → CarriesTo (IsStateOf wanted identity draw first) t u (held_of first) (held_of now) before.marks after.marks
    pub pushed : ArePushed before.now first.number store.number before.marks after.marks
    pub marks : length after.marks ≡ length before.marks + count
    pub rest : after ≡ record before { marks = after.marks }
    pub goes : GoesOn t u

  -- It came to its end, of which this is told.
  pub record IsDone (u : Option Story) (k : DurableReplica) (after : Report) (a : Applied) : Type 0 where
    pub replica : replica_of k.node ≡ (apply wanted identity draw first).replica
    pub told : IsTold a (apply wanted identity draw first)
    pub kept : HasKept u (replica_of k.node) k.store k.fetched after a.count
