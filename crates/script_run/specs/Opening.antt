-- Each node as it was opened, by what its disk had.
use Rattle.std.specs.Prelude.{◌≡◌, ◌<◌, ◌^◌, List, [], ◌∷◌, Option, Some, IfSome, Ok}
use Rattle.port_traits.specs.declared.identity.Identity.{Identity}
use Rattle.port_traits.specs.declared.identity.Draw.{Draw}
use Rattle.answer_text.specs.declared.report.Mark.{Mark}
use Rattle.answer_text.specs.declared.report.Report.{Report}
use Rattle.disk_model.specs.Story.{Story, seen}
use Rattle.durable_source.specs.Standing.{OpensOn, Stands, beginning_of}
use Rattle.durable_source.specs.declared.source.DurableSource.{DurableSource}
use Rattle.durable_replica.specs.Standing.{IsOnDisk}
use Rattle.durable_replica.specs.declared.replica.DurableReplica.{DurableReplica}
use Rattle.durable_replica.specs.replica_node.Kept.{held_of, replica_of}
use Rattle.run_stores.specs.durable_runs.Replicas.{ReplicaRuns}
use Rattle.run_stores.specs.durable_runs.Sources.{SourceRuns, Stored}
use Rattle.run_laws.specs.run_model.replica_model.Replica.{replica_from}
use Rattle.run_laws.specs.session_model.Openings.{opened_from, opening_entries}
use Rattle.store_model.specs.declared.record.Kind.TheVariants.{Source, Replica}
use Rattle.store_model.specs.Entries.{writer_at}
use Rattle.store_model.specs.Held.{Held}
use Rattle.store_model.specs.Stores.{held_by}
use Rattle.script_run.specs.Generations.{IsActive}

-- A source was opened at a draw, both of which the report tells: it stands for a run that begins with what its disk had, and its disk's calls
-- are a run of what opening puts out.
pub record SourceOpened (t u : Option Story) (source : DurableSource) (report : Report) : Type 0 where
  pub identity : Identity
  pub draw : Draw
  pub fits : draw.now < 2 ^ 32
  pub named : source.node.identity ≡ identity
  pub told : report.src_identity ≡ Some identity
  pub drawn : report.src_draws ≡ draw ∷ []
  pub stands : (start : Stored) → OpensOn t start → IfSome t (λ _. Stands u source start (opened_from identity draw (beginning_of start)))
  pub active : IfSome t (λ _. IsActive Source source.store.generation (seen t))
  pub runs : (start : Stored) (marks : List Mark) → OpensOn t start → SourceRuns t u start (opening_entries identity draw (writer_at start.held)) marks marks

-- A replica was opened so: it is the one that its disk's files stand for, and its disk has that still.
pub record ReplicaOpened (t u : Option Story) (replica : DurableReplica) (report : Report) : Type 0 where
  pub identity : Identity
  pub draw : Draw
  pub named : replica.node.identity ≡ identity
  pub told : report.rep_identity ≡ Some identity
  pub drawn : report.rep_draws ≡ draw ∷ []
  pub is : (held : Held) → IfSome t (λ _. held_by Replica (seen t) ≡ Ok held) → IfSome t (λ _. replica_of replica.node ≡ replica_from held.base held.number held.place)
  pub holds : IfSome t (λ _. held_by Replica (seen t) ≡ Ok (held_of (replica_of replica.node)))
  pub runs : (held : Held) (marks : List Mark) → IfSome t (λ _. held_by Replica (seen t) ≡ Ok held) → ReplicaRuns t u held [] marks marks
  pub active : IfSome t (λ _. IsActive Replica replica.store.generation (seen t))
  pub on : IsOnDisk u replica
