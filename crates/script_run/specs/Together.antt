-- A source and a replica that stand for both nodes of a run, and what one command makes of them.
use Rattle.std.specs.Prelude.{◌≡◌, ◌<◌, ℕ, ◌+◌, ◌-◌, ◌^◌, min, List, [], ◌∷◌, ◌++◌, Option, Some, IfSome, Ok}
use Rattle.port_traits.specs.declared.identity.Draw.{Draw}
use Rattle.answer_text.specs.declared.report.Report.{Report}
use Rattle.answer_text.specs.declared.status.Status.{Status}
use Rattle.answer_text.specs.declared.status.Status.TheVariants.{WriteFault, SourceDisk, ReplicaDisk, NoMemory}
use Rattle.disk_model.specs.Story.{Story, seen}
use Rattle.durable_source.specs.Standing.{Stands, beginning_of}
use Rattle.durable_source.specs.declared.source.DurableSource.{DurableSource}
use Rattle.durable_replica.specs.Standing.{IsOnDisk}
use Rattle.durable_replica.specs.replica_node.Kept.{held_of, replica_of}
use Rattle.run_stores.specs.durable_runs.Laws.{HasFirstLog}
use Rattle.run_stores.specs.durable_runs.Sources.{Stored}
use Rattle.store_model.specs.declared.record.Kind.TheVariants.{Source, Replica}
use Rattle.store_model.specs.Held.{Held}
use Rattle.store_model.specs.Stores.{held_by}
use Rattle.run_stores.specs.Standing.{HasOneLog, StandAt}
use Rattle.run_laws.specs.run_model.Asked.{Asked}
use Rattle.run_laws.specs.run_model.Run.{Names, Both, Starts, source_from, both_from, carried_in, next, told_lines, draws_source, draws_replica, kept_if, mark_at}
use Rattle.run_laws.specs.run_model.Following.{AreCommitted, Follows, head_entries}
use Rattle.run_laws.specs.Openings.{Begins}
use Rattle.run_laws.specs.log_entries.declared.entries.Entry.{Entry}
use Rattle.run_laws.specs.Laws.{IsSound, IsLoggedAsSet, GoesThrough}
use Rattle.run_laws.specs.session_model.Machine.{Machine, Whole}
use Rattle.run_laws.specs.session_model.Holding.{Holds}
use Rattle.run_streams.specs.Reports.{first_mark}
use Rattle.run_streams.specs.Wrote.{Wrote, WroteFront}
use Rattle.script_run.specs.declared.nodes.Nodes.{Nodes}
use Rattle.script_run.specs.Disks.{AreTold, BothGoOn, Disks, Stores, stores_in}
use Rattle.script_run.specs.Generations.{AreAt, IsActive, Raises}
use Rattle.script_run.specs.Marks.{CalledNow, Pushed, committed_of, uncounted}
use Rattle.script_run.specs.Survives.{CarriedSince, CarriesOn, CarriesSome, Lasted, LastsOn, MayPut, NamesOn}

-- A source is on its disk, whatever that has and whether it tells it or not: it stands for some run.
abbrev pub SourceIsOn : Option Story → DurableSource → Type 0
SourceIsOn t source = (from : Stored) × ((m : Machine) × (Stands t source from m × Holds (beginning_of from) m))

-- Both nodes are on their disks.
pub record AreOnDisks (t : Disks) (nodes : Nodes) : Type 0 where
  pub source : SourceIsOn t.source nodes.source
  pub replica : IsOnDisk t.replica nodes.replica

-- The source's one log has what was read of it and then, behind its head, transactions and definitions alone.
pub record IsOneLog (from : Starts) (m : Machine) : Type 0 where
  pub stamp : ℕ
  pub server : ℕ
  pub entries : List (Entry Whole)
  pub are : from.owed ++ m.history ≡ head_entries from.read stamp server ++ entries
  pub committed : AreCommitted entries

-- The nodes stand for those of a run: they have the names, the source keeps the machine's state, its disk has what the machine's entries make of
-- what it had, the replica is the run's, and its disk has what that has carried out. Both disks tell their stories. The source began on one
-- log, and the replica on what its store had. Where the run began as one may, what the source committed can be run and read again, and the
-- replica follows it.
pub record Together (names : Names) (t : Disks) (start : Stores) (nodes : Nodes) (b : Both) : Type 0 where
  pub source_name : nodes.source.node.identity ≡ names.source
  pub replica_name : nodes.replica.node.identity ≡ names.replica
  pub told : AreTold t
  pub stands : Stands t.source nodes.source start.source b.machine
  pub replica : replica_of nodes.replica.node ≡ b.replica
  pub replica_on : IsOnDisk t.replica nodes.replica
  pub began : StandAt start.source start.replica b.from
  pub one : HasOneLog start.source
  pub holds : Holds (source_from b.from) b.machine
  pub line : IsOneLog b.from b.machine
  pub sound : Begins b.from → IsSound b.from b.machine
  pub follows : Begins b.from → Follows names b

-- ---- the report

-- a draw was taken and told by the node whose command it is; FETCH takes none
pub record Drew (c : Asked) (draw : Draw) (old new : Report) : Type 0 where
  pub source : new.src_identity ≡ old.src_identity
  pub replica : new.rep_identity ≡ old.rep_identity
  pub src_draws : new.src_draws ≡ old.src_draws ++ kept_if (draws_source c) draw []
  pub rep_draws : new.rep_draws ≡ old.rep_draws ++ kept_if (draws_replica c) draw []

-- whatever happened, no identity changed and draws were told behind those before
pub record Grew (old new : Report) : Type 0 where
  pub source : new.src_identity ≡ old.src_identity
  pub replica : new.rep_identity ≡ old.rep_identity
  pub src_more : List Draw
  pub rep_more : List Draw
  pub src_draws : new.src_draws ≡ old.src_draws ++ src_more
  pub rep_draws : new.rep_draws ≡ old.rep_draws ++ rep_more

-- a mark was pushed for each transaction that was committed, and for each group that was carried out, on the way from one state of the run
-- to the other
pub record Marked (k : ℕ) (b b' : Both) (old new : Report) : Type 0 where
  pub commits : ℕ
  pub groups : ℕ
  pub pushed : Pushed (mark_at k b) commits groups old.marks new.marks
  pub number : committed_of b' ≡ committed_of b + commits
  pub carried : carried_in b'.steps ≡ carried_in b.steps + groups
  pub applied : b'.replica.number ≡ min (b.replica.number + groups) (2 ^ 64 - 1)

-- ---- one command

-- These lines show a command that was carried out at a draw. Where the run began as one may, it was no APPLY that stopped where each item
-- that it came to does the same at every replica, and none that stopped at anything but an item that has no effect. The disks' stories go on.
pub record Shows (names : Names) (b : Both) (k : ℕ) (c : Asked) (draw : Draw) (t u : Disks) (start : Stores) (nodes : Nodes) (lines : List ℕ) : Type 0 where
  pub lines_are : lines ≡ told_lines k (next names b c draw).told
  pub through : Begins b.from → GoesThrough names b c draw
  pub logged : IsLoggedAsSet names b c draw
  pub on : BothGoOn t u
  pub together : Together names u start nodes (next names b c draw).both

-- Where a command begins: its number and the machine's numbers, of which the replica's is within 64 bits, and the calls that each disk has had.
pub record Began (k : ℕ) (b : Both) (t : Disks) (report : Report) : Type 0 where
  pub now : uncounted report.now ≡ mark_at k b
  pub few : b.replica.number < 2 ^ 64
  pub calls : CalledNow t.source report.now.src_calls
  pub rep_calls : CalledNow t.replica report.now.rep_calls

-- nodes that stand for those of a run, and a report that says that a command begins there
pub record Before (names : Names) (t : Disks) (start : Stores) (nodes : Nodes) (k : ℕ) (b : Both) (report : Report) : Type 0 where
  pub together : Together names t start nodes b
  pub began : Began k b t report

-- The draw was told, and a mark for each transaction and each group; the report says where the command began. Each disk goes on from what it had
-- before to what it has behind the command, at its generation or, behind a checkpoint, at the next.
pub record CarriedOut (names : Names) (b : Both) (k : ℕ) (c : Asked) (t u : Disks) (start : Stores) (old new : Report) (nodes : Nodes) (lines : List ℕ) : Type 0 where
  pub draw : Draw
  pub drew : Drew c draw old new
  pub began : Began k b t new
  pub marked : Marked k b (next names b c draw).both old new
  pub lasts : LastsOn t.source u.source start.source b.machine.history (next names b c draw).both.machine.history old.marks new.marks
  pub carries : CarriesOn t.replica u.replica names b c draw old.marks new.marks
  pub all_named : NamesOn t.replica u.replica (committed_of b) (committed_of (next names b c draw).both) old.marks new.marks
  pub raises : Raises c t u
  pub shows : Shows names b k c draw t u start nodes lines

-- A command that was not carried out: a mark was pushed for each transaction and each group that was kept, and the report says where it began.
-- What may stand on the source's disk is what it may have put out, and on the replica's what it is on the way, at some draw.
pub record GaveUp (names : Names) (b : Both) (k : ℕ) (c : Asked) (t u : Disks) (start : Stores) (old new : Report) : Type 0 where
  pub began : Began k b t new
  pub commits : ℕ
  pub groups : ℕ
  pub pushed : Pushed (mark_at k b) commits groups old.marks new.marks
  pub on : BothGoOn t u
  pub put : List (Entry Whole)
  pub may : MayPut names b c put
  pub begins : HasFirstLog put start.source.held
  pub lasts : LastsOn t.source u.source start.source b.machine.history put old.marks new.marks
  pub at : Draw
  pub carries : CarriesSome t.replica u.replica names b c at old.marks new.marks

-- the lines were written
pub record Told (names : Names) (b : Both) (k : ℕ) (c : Asked) (t u : Disks) (start : Stores) (old new : Report) (nodes : Nodes) (before after : Option (List ℕ)) : Type 0 where
  pub draw : Draw
  pub drew : Drew c draw old new
  pub began : Began k b t new
  pub marked : Marked k b (next names b c draw).both old new
  pub wrote : Wrote before after (told_lines k (next names b c draw).told)
  pub through : Begins b.from → GoesThrough names b c draw
  pub logged : IsLoggedAsSet names b c draw
  pub on : BothGoOn t u
  pub lasts : LastsOn t.source u.source start.source b.machine.history (next names b c draw).both.machine.history old.marks new.marks
  pub carries : CarriesOn t.replica u.replica names b c draw old.marks new.marks
  pub all_named : NamesOn t.replica u.replica (committed_of b) (committed_of (next names b c draw).both) old.marks new.marks
  pub raises : Raises c t u
  pub together : Together names u start nodes (next names b c draw).both

-- a front of them was written
pub record ToldFront (names : Names) (b : Both) (k : ℕ) (c : Asked) (t u : Disks) (start : Stores) (old new : Report) (before after : Option (List ℕ)) : Type 0 where
  pub draw : Draw
  pub drew : Drew c draw old new
  pub began : Began k b t new
  pub marked : Marked k b (next names b c draw).both old new
  pub wrote : WroteFront before after (told_lines k (next names b c draw).told)
  pub through : Begins b.from → GoesThrough names b c draw
  pub logged : IsLoggedAsSet names b c draw
  pub on : BothGoOn t u
  pub begins : HasFirstLog (next names b c draw).both.machine.history start.source.held
  pub lasts : LastsOn t.source u.source start.source b.machine.history (next names b c draw).both.machine.history old.marks new.marks
  pub carries : CarriesOn t.replica u.replica names b c draw old.marks new.marks
  pub raises : Raises c t u

-- a command that stopped: at a fault of the output, or, with nothing written, at one of a disk or where memory was short
abbrev pub Stopped : Status → Names → Both → ℕ → Asked → (t u : Disks) → Stores → Report → Report → Option (List ℕ) → Option (List ℕ) → Type 0
Stopped WriteFault names b k c t u start old new before after = ToldFront names b k c t u start old new before after
Stopped SourceDisk names b k c t u start old new before after = (after ≡ before) × GaveUp names b k c t u start old new
Stopped ReplicaDisk names b k c t u start old new before after = (after ≡ before) × GaveUp names b k c t u start old new
Stopped NoMemory names b k c t u start old new before after = (after ≡ before) × GaveUp names b k c t u start old new
Stopped _ names b k c t u start old new before after = ⊥

-- ---- before all commands

-- both nodes were opened, each at a draw, where the run begins, and nothing else was told
pub record Opened (from : Starts) (t u : Disks) (nodes : Nodes) (report : Report) : Type 0 where
  pub names : Names
  pub src : Draw
  pub rep : Draw
  pub source : report.src_identity ≡ Some names.source
  pub replica : report.rep_identity ≡ Some names.replica
  pub src_draws : report.src_draws ≡ src ∷ []
  pub rep_draws : report.rep_draws ≡ rep ∷ []
  pub stays : report.now ≡ first_mark
  pub marks : report.marks ≡ []
  pub on : BothGoOn t u
  pub held : Held
  pub holds : held_by Source (seen t.source) ≡ Ok held
  pub rep_holds : held_by Replica (seen t.replica) ≡ Ok (held_of from.replica)
  pub src_first : ℕ
  pub rep_first : ℕ
  pub began : IfSome t.source (λ _. IsActive Source src_first (seen t.source))
  pub rep_began : IfSome t.replica (λ _. IsActive Replica rep_first (seen t.replica))
  pub at : AreAt u src_first rep_first
  pub lasts : Lasted t.source u.source (stores_in t held (held_of from.replica)).source (both_from names src from).machine.history report.marks
  pub carries : CarriedSince t.replica u.replica names (both_from names src from) [] [] from.replica report.marks
  pub together : Together names u (stores_in t held (held_of from.replica)) nodes (both_from names src from)
