-- Commands on their way, and how they end.
use Rattle.std.specs.Prelude.{◌≡◌, ◌⊎◌, ℕ, List, length, Option, IfSome, Ok}
use Rattle.port_traits.specs.declared.identity.Draw.{Draw}
use Rattle.answer_text.specs.declared.report.Report.{Report}
use Rattle.answer_text.specs.declared.status.Status.{Status}
use Rattle.answer_text.specs.declared.status.Status.TheVariants.{WriteFault, SourceDisk, ReplicaDisk, SourceDamaged, ReplicaDamaged, NoMemory}
use Rattle.disk_model.specs.Story.{seen}
use Rattle.durable_replica.specs.replica_node.Kept.{held_of}
use Rattle.store_model.specs.declared.record.Kind.TheVariants.{Source, Replica}
use Rattle.store_model.specs.Held.{Held}
use Rattle.store_model.specs.Stores.{held_by}
use Rattle.run_laws.specs.run_model.Asked.{Asked}
use Rattle.run_laws.specs.run_model.Run.{Names, Starts, both_from, end_of, lines_shown, source_from}
use Rattle.run_laws.specs.run_model.Following.{Follows}
use Rattle.run_laws.specs.Laws.{AllLoggedAsSet, NoneStops}
use Rattle.run_stores.specs.Carried.{AllSound}
use Rattle.run_stores.specs.durable_runs.Runs.{CallsFit}
use Rattle.run_laws.specs.Openings.{Begins}
use Rattle.run_streams.specs.Wrote.{Wrote}
use Rattle.script_run.specs.declared.nodes.Nodes.{Nodes}
use Rattle.script_run.specs.Beginning.{FromEach, SourceWasDamaged, ReplicaWasDamaged, StoodFor}
use Rattle.script_run.specs.Disks.{BothGoOn, Disks, stores_in}
use Rattle.script_run.specs.Generations.{AreRaised, BothRaised}
use Rattle.script_run.specs.Ran.{Reports, Broke, Ceased, NotBegun}
use Rattle.script_run.specs.Marks.{committed_of}
use Rattle.script_run.specs.Survives.{CarriedSince, Lasted, ServedSince}
use Rattle.script_run.specs.Together.{Together}

-- so many commands were carried out, each at a draw that is told, and the lines of their answers were written
pub record Going (from : Starts) (t u : Disks) (cs : List Asked) (count : ℕ) (report : Report) (before now : Option (List ℕ)) (nodes : Nodes) : Type 0 where
  pub names : Names
  pub src : Draw
  pub rep : Draw
  pub draws : List Draw
  pub count_is : length draws ≡ count
  pub told : Reports names src rep from t u cs draws report
  pub wrote : Wrote before now (lines_shown names (both_from names src from) 1 cs draws)
  pub unstopped : Begins from → NoneStops names (both_from names src from) cs draws
  pub formats : AllLoggedAsSet names (both_from names src from) cs draws
  pub followed : Begins from → Follows names (both_from names src from)
  pub sounds : Begins from → AllSound names (both_from names src from) cs draws
  pub on : BothGoOn t u
  pub held : Held
  pub holds : held_by Source (seen t.source) ≡ Ok held
  pub rep_holds : held_by Replica (seen t.replica) ≡ Ok (held_of from.replica)
  pub lasts : Lasted t.source u.source (stores_in t held (held_of from.replica)).source (end_of names (both_from names src from) cs draws).machine.history report.marks
  pub carries : CarriedSince t.replica u.replica names (both_from names src from) cs draws (end_of names (both_from names src from) cs draws).replica report.marks
  pub serves : Begins from → CallsFit u.replica → ServedSince t.replica u.replica (source_from from).committed (committed_of (end_of names (both_from names src from) cs draws)) report.marks
  pub raised : BothRaised t u cs draws report.marks
  pub at : AreRaised t u cs draws report.marks raised
  pub together : Together names u (stores_in t held (held_of from.replica)) nodes (end_of names (both_from names src from) cs draws)

-- how commands stop; a status without a case here cannot come where both disks tell their stories
abbrev pub Ends : Status → Starts → (t u : Disks) → List Asked → Report → Option (List ℕ) → Option (List ℕ) → Type 0
Ends WriteFault from t u cs report before after = Broke from t u cs report before after
Ends SourceDisk from t u cs report before after = Ceased from t u cs report before after
Ends ReplicaDisk from t u cs report before after = Ceased from t u cs report before after
Ends NoMemory from t u cs report before after = Ceased from t u cs report before after
Ends _ from t u cs report before after = ⊥

-- both disks' files stood for what is held, and from wherever the run may have stood there, it came to this
abbrev pub StoodAndCame : Disks → (Starts → Type 0) → Type 0
StoodAndCame t Came = StoodFor t × FromEach t Came

-- how an opening of both nodes and the commands behind it stop; a status without a case here cannot come
abbrev pub EndsRunning : Status → (t u : Disks) → List Asked → Report → Option (List ℕ) → Option (List ℕ) → Type 0
EndsRunning WriteFault t u cs report before after = StoodAndCame t (λ from. Broke from t u cs report before after)
EndsRunning SourceDisk t u cs report before after = NotBegun t u report before after ⊎ StoodAndCame t (λ from. Ceased from t u cs report before after)
EndsRunning ReplicaDisk t u cs report before after = NotBegun t u report before after ⊎ StoodAndCame t (λ from. Ceased from t u cs report before after)
EndsRunning (SourceDamaged file at) t u cs report before after =
    IfSome t.source (λ _. SourceWasDamaged t.source (record { file = file; at = at }) × NotBegun t u report before after)
EndsRunning (ReplicaDamaged file at) t u cs report before after =
    IfSome t.replica (λ _. ReplicaWasDamaged t.replica (record { file = file; at = at }) × NotBegun t u report before after)
EndsRunning NoMemory t u cs report before after = NotBegun t u report before after ⊎ StoodAndCame t (λ from. Ceased from t u cs report before after)
EndsRunning _ t u cs report before after = ⊥
