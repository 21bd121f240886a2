-- A CHECKPOINT of one node, which leaves both nodes as they are.
use Rattle.std.proofs.Common.{◌≡◌, ℕ, List, [], Option, refl, sym, ap, ◌∙◌, subst, append-nil}
use Rattle.answer_text.specs.declared.answer.Answer.{Answer}
use Rattle.answer_text.specs.declared.report.Mark.{Mark}
use Rattle.answer_text.specs.declared.report.Report.{Report}
use Rattle.answer_text.specs.Shown.{shown}
use Rattle.disk_model.specs.Story.{Story}
use Rattle.disk_model.specs.Moments.{GoesOn}
use Rattle.disk_model.proofs.Moments.{on_refl}
use Rattle.durable_replica.specs.Standing.{IsOnDisk}
use Rattle.durable_replica.specs.declared.replica.DurableReplica.{DurableReplica}
use Rattle.durable_replica.specs.replica_node.Kept.{held_of, replica_of}
use Rattle.durable_source.specs.declared.source.DurableSource.{DurableSource}
use Rattle.durable_source.specs.Standing.{Stands, beginning_of}
use Rattle.run_laws.specs.session_model.Answers.{ok}
use Rattle.run_laws.specs.session_model.Holding.{Holds}
use Rattle.run_laws.specs.session_model.Machine.{Machine}
use Rattle.run_laws.specs.run_model.Asked.{checkpoint_source, checkpoint_replica}
use Rattle.run_laws.specs.run_model.Run.{Both, Names}
use Rattle.run_stores.specs.durable_runs.Laws.{RunsLast}
use Rattle.run_stores.specs.durable_runs.Replicas.{ReplicaRuns}
use Rattle.run_stores.specs.durable_runs.Sources.{SourceRuns, Stored, source_side}
use Rattle.script_run.specs.declared.nodes.Nodes.{Nodes}
use Rattle.script_run.specs.Disks.{BothGoOn, Stores, disks}
use Rattle.script_run.specs.Generations.{generation_behind}
use Rattle.script_run.specs.Marks.{committed_of}
use Rattle.script_run.specs.Survives.{LastsOn}
use Rattle.script_run.specs.Together.{Before, CarriedOut, Drew, GaveUp, Together}
use Rattle.script_run.proofs.Disks.{both_told}
use Rattle.script_run.proofs.Recovering.{names_none}
use Rattle.script_run.proofs.Serving.{Known, holds_here}
use Rattle.script_run.proofs.Spoken.{carried, gave_up, lasts_none, marked_none, rep_looked, rep_still, replica_changed, runs_here, some_draw}
use Rattle.script_run.proofs.Surviving.{lasts_still}

-- no draw is told of it
source_drew : (report : Report) → Drew checkpoint_source some_draw report report
source_drew report = record { source = refl; replica = refl; src_draws = sym (append-nil report.src_draws); rep_draws = sym (append-nil report.rep_draws) }

replica_drew : (report : Report) → Drew checkpoint_replica some_draw report report
replica_drew report = record { source = refl; replica = refl; src_draws = sym (append-nil report.src_draws); rep_draws = sym (append-nil report.rep_draws) }

-- ---- of the source

-- what its calls are, of a source that stands for a run
abbrev pub SourceKept : (t u : Option Story) → Nodes → Type 0
SourceKept t u nodes =
    (from : Stored) (m : Machine) (stands : Stands t nodes.source from m) (marks : List Mark) → Holds (beginning_of from) m → SourceRuns t u stands.now [] marks marks

module _ (law : RunsLast source_side) (known : Known) (nodes : Nodes) (t u rep : Option Story) (start : Stores) (k : ℕ) (report : Report) (goes : GoesOn t u) (runs : SourceKept t u nodes)
    (names : Names) (b : Both) (before : Before names (disks t rep) start nodes k b report) where
  both_on : BothGoOn (disks t rep) (disks u rep)
  both_on = record { source = goes; replica = on_refl rep }

  here : Holds (beginning_of start.source) b.machine
  here = holds_here known names (disks t rep) start nodes b before.together

  kept_lasts : LastsOn t u start.source b.machine.history b.machine.history report.marks report.marks
  kept_lasts =
      lasts_still law t u start.source before.together.stands.now b.machine.history report.marks report.marks goes before.together.stands.reached
      (λ fits. runs start.source b.machine before.together.stands report.marks here)

  -- one that was not carried out
  pub source_left : GaveUp names b k checkpoint_source (disks t rep) (disks u rep) start report report
  source_left =
      gave_up names checkpoint_source start nodes k b (disks t rep) (disks u rep) report report some_draw before refl refl both_on kept_lasts
      (λ fits. (rep_still names (disks t rep) start nodes b checkpoint_source some_draw report.marks report.marks before.together refl fits).carries)

  -- one that was
  pub source_kept : (nodes' : Nodes) (answer : Answer) (lines : List ℕ) → nodes'.replica ≡ nodes.replica → nodes'.source.node.identity ≡ nodes.source.node.identity
      → nodes'.source.store.generation ≡ generation_behind nodes.source.store.generation 1
      → ((from : Stored) (m : Machine) → Stands t nodes.source from m → Holds (beginning_of from) m → Stands u nodes'.source from m) → answer ≡ ok 0 → lines ≡ shown k answer
      → CarriedOut names b k checkpoint_source (disks t rep) (disks u rep) start report report nodes' lines
  source_kept nodes' answer lines replica identity generation stands is lines_are =
      let r : Together names (disks t rep) start nodes b = before.together in
      carried names b k checkpoint_source some_draw (disks t rep) (disks u rep) start report report nodes nodes' lines r (record { source = generation; replica = ap (λ (x : DurableReplica). x.store.generation) replica })
      (source_drew report) before.began
      (marked_none k b b report report before.began.few refl refl refl refl) kept_lasts
      (rep_still names (disks t rep) start nodes b checkpoint_source some_draw report.marks report.marks r refl)
      (names_none rep rep (committed_of b) (committed_of b) report.marks report.marks (on_refl rep) refl refl) (record {
        lines_are = lines_are ∙ ap (shown k) is;
        through = λ begins. tt;
        logged = tt;
        on = both_on;
        together = record {
          source_name = identity ∙ r.source_name;
          replica_name = ap (λ (x : DurableReplica). x.node.identity) replica ∙ r.replica_name;
          told = both_told (disks t rep) (disks u rep) r.told both_on;
          stands = stands start.source b.machine r.stands here;
          replica = ap (λ (x : DurableReplica). replica_of x.node) replica ∙ r.replica;
          replica_on = subst (λ (x : DurableReplica). IsOnDisk rep x) (sym replica) r.replica_on;
          began = r.began;
          one = r.one;
          holds = r.holds;
          line = r.line;
          sound = r.sound;
          follows = r.follows;
        };
      })

-- ---- of the replica

-- what its calls are
abbrev pub ReplicaKept : (t u : Option Story) → Nodes → Type 0
ReplicaKept t u nodes = (marks : List Mark) → ReplicaRuns t u (held_of (replica_of nodes.replica.node)) [] marks marks

module _ (nodes : Nodes) (src t u : Option Story) (start : Stores) (k : ℕ) (report : Report) (goes : GoesOn t u) (runs : ReplicaKept t u nodes)
    (names : Names) (b : Both) (before : Before names (disks src t) start nodes k b report) where
  both_go : BothGoOn (disks src t) (disks src u)
  both_go = record { source = on_refl src; replica = goes }

  pub replica_left : GaveUp names b k checkpoint_replica (disks src t) (disks src u) start report report
  replica_left =
      gave_up names checkpoint_replica start nodes k b (disks src t) (disks src u) report report some_draw before refl refl both_go
      (lasts_none src start.source b.machine.history report.marks report.marks refl)
      (λ fits. (rep_looked names b checkpoint_replica some_draw t u report.marks report.marks refl (runs_here nodes b t u before.together.replica runs) fits).carries)

  pub replica_kept : (nodes' : Nodes) (answer : Answer) (lines : List ℕ) → nodes'.source ≡ nodes.source → nodes'.replica.node ≡ nodes.replica.node
      → nodes'.replica.store.generation ≡ generation_behind nodes.replica.store.generation 1 → IsOnDisk u nodes'.replica → answer ≡ ok 0 → lines ≡ shown k answer
      → CarriedOut names b k checkpoint_replica (disks src t) (disks src u) start report report nodes' lines
  replica_kept nodes' answer lines source same generation on_disk is lines_are =
      let r : Together names (disks src t) start nodes b = before.together in
      carried names b k checkpoint_replica some_draw (disks src t) (disks src u) start report report nodes nodes' lines r (record { source = ap (λ (x : DurableSource). x.store.generation) source; replica = generation })
      (replica_drew report) before.began
      (marked_none k b b report report before.began.few refl refl refl refl) (lasts_none src start.source b.machine.history report.marks report.marks refl)
      (rep_looked names b checkpoint_replica some_draw t u report.marks report.marks refl (runs_here nodes b t u r.replica runs))
      (names_none t u (committed_of b) (committed_of b) report.marks report.marks goes refl refl) (record {
        lines_are = lines_are ∙ ap (shown k) is;
        through = λ begins. tt;
        logged = tt;
        on = both_go;
        together = replica_changed names (disks src t) (disks src u) start nodes nodes' b b.replica b.steps (ap (λ x. x.identity) same) (ap replica_of same ∙ r.replica) on_disk both_go
            (rw source r.stands) (rw source refl) r.follows r;
      })
