-- What is known of a log on the input, of the replica and of its disk, group by group.
use Rattle.std.specs.Prelude.{◌≡◌, ◌⊎◌, ◌<◌, ℕ, ◌+◌, Bool, true, false, List, [], ◌∷◌, ◌++◌, length, Option, Some, None, IfSome, Result, Ok, Err}
use Rattle.port_traits.specs.declared.identity.Identity.{Identity}
use Rattle.port_traits.specs.declared.identity.Draw.{Draw}
use Rattle.answer_text.specs.declared.report.Mark.{Mark}
use Rattle.answer_text.specs.declared.status.Status.{Status}
use Rattle.answer_text.specs.declared.status.Status.TheVariants.{Done, ReadFault, WriteFault, ReplicaDisk, ReplicaDamaged, LogDamaged, LogForeign, Differs, NoMemory}
use Rattle.answer_text.specs.declared.report.Report.{Report}
use Rattle.disk_model.specs.declared.refusals.NodeFault.{NodeFault}
use Rattle.disk_model.specs.Story.{Story, seen}
use Rattle.disk_model.specs.Moments.{GoesOn}
use Rattle.store_model.specs.declared.record.Kind.TheVariants.{Replica as OfReplica}
use Rattle.store_model.specs.Held.{Held}
use Rattle.store_model.specs.Stores.{held_by}
use Rattle.durable_replica.specs.store_replica.durable_runs.Replicas.{Carries, CarriesTo}
use Rattle.durable_replica.specs.store_replica.durable_runs.Runs.{CallsFit}
use Rattle.durable_replica.specs.store_replica.Pushed.{ArePushed, NameInTurn}
use Rattle.durable_replica.specs.store_replica.Writing.{OpensOn}
use Rattle.durable_replica.specs.Standing.{IsOnDisk}
use Rattle.durable_replica.specs.replica_node.apply_model.Stops.{Differs as Stop}
use Rattle.log_reader.specs.log_model.Groups.{Group}
use Rattle.log_reader.specs.Behind.{Behind, IsLog, IsLogFront}
use Rattle.log_reader.specs.Reading.{Reader, IsEnd, next_pos}
use Rattle.durable_replica.specs.replica_node.replica_model.Lines.{applied_words}
use Rattle.durable_replica.specs.replica_node.replica_model.Replica.{Replica}
use Rattle.durable_replica.specs.replica_node.replica_model.Replaying.{Replay, all_replayed, replay_by}
use Rattle.durable_replica.specs.replica_node.declared.told.Stopped.{Stopped}
use Rattle.durable_replica.specs.replica_node.declared.told.Stopped.TheVariants as stopped
use Rattle.durable_replica.specs.replica_node.Kept.{held_of, replica_of}
use Rattle.run_streams.specs.Reports.{first_mark}
use Rattle.run_streams.specs.Wrote.{Wrote, WroteFront}
use Rattle.log_reader.specs.log_file_model.Walk.{Ending, ended, damaged, foreign, Grouped, Piece, grouped_from}
use Rattle.replay_log.specs.declared.replaying.Replaying as code_replaying
use Rattle.replay_log.specs.Ends.{AreMarks, IsBehind, Opened, Reports, Survives, held_in}
use Rattle.replay_log.specs.Keeping.{IsWhole, IsBegun, Keeps}

-- ---- a replica under way

-- what it keeps in memory
abbrev pub kept : code_replaying.Replaying → Replica
kept r = replica_of r.node.node

-- it has carried out so many groups, and stands behind them, as a replay has and does
pub record Stands (r : code_replaying.Replaying) (s : Replay) : Type 0 where
  pub keeps : Keeps (kept r) s
  pub count : r.count ≡ s.count
  pub place : record { log = r.log; pos = r.pos } ≡ s.place

-- it was opened, and has done nothing
pub record IsFresh (r : code_replaying.Replaying) : Type 0 where
  pub stands : Stands r (replay_by (kept r))
  pub relay : (kept r).relay ≡ []

-- the next group stands at a place
abbrev pub IsReady : code_replaying.Replaying → (pos : ℕ) → Type 0
IsReady r pos = IsBegun (kept r).place.pos (kept r).relay pos × (r.count < pos)

-- a reader has a group that can be fetched
pub record IsNext (r : code_replaying.Replaying) (reader : Reader) : Type 0 where
  pub group : Group
  pub is : IsWhole reader.bytes reader.begin group
  pub ready : IsReady r reader.begin

-- ---- one group more

-- it was carried out
pub record WentThrough (r : code_replaying.Replaying) (s : Replay) (closed : Bool) (pos : ℕ) : Type 0 where
  pub stands : Stands r s
  pub running : s.stop ≡ None
  pub ready : closed ≡ false → IsReady r pos

-- or an item of it has no effect
pub record Differed (stop : Stop) (r : code_replaying.Replaying) (s : Replay) : Type 0 where
  pub stands : Stands r s
  pub stopped : s.stop ≡ Some stop

abbrev pub WentOn : Option Stopped → code_replaying.Replaying → Replay → (closed : Bool) → (pos : ℕ) → Type 0
WentOn None r s closed pos = WentThrough r s closed pos
WentOn (Some (stopped.Differs pos code table key)) r s closed at = Differed (record { place = pos; code = code; table = table; key = key }) r s
WentOn (Some (stopped.Damaged pos)) r s closed at = ⊥
WentOn (Some (stopped.Foreign pos kind)) r s closed at = ⊥

-- the same by a status
abbrev pub Went : Status → code_replaying.Replaying → Replay → (closed : Bool) → (pos : ℕ) → Type 0
Went Done r s closed pos = WentThrough r s closed pos
Went (Differs pos code table key) r s closed at = Differed (record { place = pos; code = code; table = table; key = key }) r s
Went ReplicaDisk r s closed pos = Unit {0}
Went NoMemory r s closed pos = Unit {0}
Went _ r s closed pos = ⊥

-- a status that tells why a group is not carried out
abbrev pub IsStop : Status → Type 0
IsStop Done = ⊥
IsStop ReadFault = ⊥
IsStop _ = Unit {0}

-- ---- on the disk

-- the one or the other
abbrev pub IsEither : Replay → Replay → Held → Type 0
IsEither before behind held = (held ≡ held_in before) ⊎ (held ≡ held_in behind)

-- One group more was carried out, or stopped so: the disk has what the replica keeps, its calls are a run between what it held before the
-- group and behind it, and a mark was pushed where the group was counted.
pub record GroupKept (t u : Option Story) (old new : code_replaying.Replaying) (before behind : Replay) (now : Mark) (marks more : List Mark) : Type 0 where
  pub on : IsOnDisk u new.node
  pub runs : CallsFit u → CarriesTo (IsEither before behind) t u (held_in before) (held_in behind) marks more
  pub pushed : ArePushed now (kept old).number (kept new).number marks more
  pub counted : length more + old.count ≡ length marks + new.count

-- the disk failed in it, or memory was short
pub record GroupBroke (t u : Option Story) (old : code_replaying.Replaying) (before behind : Replay) (now : Mark) (marks more : List Mark) : Type 0 where
  pub runs : CallsFit u → Carries (IsEither before behind) t u (held_in before) marks more
  pub number : ℕ
  pub pushed : ArePushed now (kept old).number number marks more

abbrev pub IsKept : {A : Type 0} → Result A NodeFault → (t u : Option Story) → (old new : code_replaying.Replaying) → (before behind : Replay) → Mark → (marks more : List Mark) → Type 0
IsKept (Ok x) t u old new before behind now marks more = GroupKept t u old new before behind now marks more
IsKept (Err fault) t u old new before behind now marks more = GroupBroke t u old before behind now marks more

-- the same by a status
abbrev pub KeptBy : Status → (t u : Option Story) → (old new : code_replaying.Replaying) → (before behind : Replay) → Mark → (marks more : List Mark) → Type 0
KeptBy Done t u old new before behind now marks more = GroupKept t u old new before behind now marks more
KeptBy (Differs pos code table key) t u old new before behind now marks more = GroupKept t u old new before behind now marks more
KeptBy ReplicaDisk t u old new before behind now marks more = GroupBroke t u old before behind now marks more
KeptBy NoMemory t u old new before behind now marks more = GroupBroke t u old before behind now marks more
KeptBy _ t u old new before behind now marks more = ⊥

-- ---- the whole log

-- what a replay has kept since a moment: its disk has what the replica keeps, its calls are a run whose states are those behind the first of
-- the groups, and there is a mark for each group that was carried out
pub record Lasts (identity : Identity) (draw : Draw) (from : Replica) (pieces : List Piece) (t u : Option Story) (r : code_replaying.Replaying) (marks : List Mark) : Type 0 where
  pub on : IsOnDisk u r.node
  pub goes : GoesOn t u
  pub carries : CallsFit u → CarriesTo (IsBehind identity draw from pieces) t u (held_of from) (held_of (kept r)) [] marks
  pub marked : AreMarks from.number r.count (kept r).number marks

-- and where its disk failed, or memory was short
pub record Broke (identity : Identity) (draw : Draw) (from : Replica) (pieces : List Piece) (t u : Option Story) (marks : List Mark) : Type 0 where
  pub goes : GoesOn t u
  pub carries : CallsFit u → Carries (IsBehind identity draw from pieces) t u (held_of from) [] marks
  pub named : NameInTurn first_mark from.number marks

-- as a replica reads a log
abbrev pub read_by : Replica → List ℕ → Grouped
read_by from = grouped_from from.place.pos

-- some groups were carried out, behind which a reader stands
pub record Under (identity : Identity) (draw : Draw) (from : Replica) (start left : Option (List ℕ)) (t u : Option Story) (reader : Reader)
    (r : code_replaying.Replaying) (marks : List Mark) : Type 0 where
  pub pieces : List Piece
  pub behind : Behind (read_by from) start left pieces reader
  pub running : (all_replayed identity draw pieces (replay_by from)).stop ≡ None
  pub stands : Stands r (all_replayed identity draw pieces (replay_by from))
  pub ready : reader.closed ≡ false → IsReady r (next_pos reader)
  pub lasts : Lasts identity draw from pieces t u r marks

-- all groups of a log that ends so were carried out
pub record Through (ending : Ending) (identity : Identity) (draw : Draw) (from : Replica) (start : Option (List ℕ)) (t u : Option Story)
    (r : code_replaying.Replaying) (marks : List Mark) : Type 0 where
  pub pieces : List Piece
  pub log : IsLog (read_by from) start pieces ending
  pub running : (all_replayed identity draw pieces (replay_by from)).stop ≡ None
  pub stands : Stands r (all_replayed identity draw pieces (replay_by from))
  pub lasts : Lasts identity draw from pieces t u r marks

-- the groups of a log up to one that differs
pub record UpTo (stop : Stop) (identity : Identity) (draw : Draw) (from : Replica) (start : Option (List ℕ)) (t u : Option Story)
    (r : code_replaying.Replaying) (marks : List Mark) : Type 0 where
  pub pieces : List Piece
  pub log : IsLogFront (read_by from) start pieces
  pub stopped : (all_replayed identity draw pieces (replay_by from)).stop ≡ Some stop
  pub stands : Stands r (all_replayed identity draw pieces (replay_by from))
  pub lasts : Lasts identity draw from pieces t u r marks

-- some groups of a log, in or behind the last of which there was a fault
pub record UpToFault (identity : Identity) (draw : Draw) (from : Replica) (start : Option (List ℕ)) (t u : Option Story) (marks : List Mark) : Type 0 where
  pub pieces : List Piece
  pub log : IsLogFront (read_by from) start pieces
  pub broke : Broke identity draw from pieces t u marks

-- how all groups come to an end, before anything is written; a status without a case here cannot come
abbrev pub ComesTo : Status → Identity → Draw → Replica → (start left : Option (List ℕ)) → (t u : Option Story) → code_replaying.Replaying → List Mark → Type 0
ComesTo Done identity draw from start left t u r marks = Through ended identity draw from start t u r marks × IsEnd left
ComesTo (LogDamaged pos) identity draw from start left t u r marks = Through (damaged pos) identity draw from start t u r marks
ComesTo (LogForeign pos kind) identity draw from start left t u r marks = Through (foreign pos kind) identity draw from start t u r marks
ComesTo (Differs pos code table key) identity draw from start left t u r marks =
    UpTo (record { place = pos; code = code; table = table; key = key }) identity draw from start t u r marks
ComesTo ReadFault identity draw from start left t u r marks = UpToFault identity draw from start t u marks
ComesTo ReplicaDisk identity draw from start left t u r marks = UpToFault identity draw from start t u marks
ComesTo NoMemory identity draw from start left t u r marks = UpToFault identity draw from start t u marks
ComesTo _ identity draw from start left t u r marks = ⊥

-- who the replica is and its draw, as the report tells, what it opened on, and what it came to
pub record CameTo (status : Status) (start left : Option (List ℕ)) (t u : Option Story) (report : Report) (r : code_replaying.Replaying) : Type 0 where
  pub identity : Identity
  pub draw : Draw
  pub told : Reports identity draw report
  pub from : Replica
  pub opened : Opened t from
  pub holds : OpensOn t (held_of from)
  pub comes : ComesTo status identity draw from start left t u r report.marks

-- ---- a replica that was not opened

-- why
abbrev pub IsRefused : Status → Option Story → Type 0
IsRefused ReplicaDisk t = Unit {0}
IsRefused (ReplicaDamaged file at) t = IfSome t (λ _. held_by OfReplica (seen t) ≡ Err (record { file = file; at = at }))
IsRefused NoMemory t = Unit {0}
IsRefused _ t = ⊥

-- and what is then in the report and on the disk
pub record Refused (status : Status) (t u : Option Story) (report : Report) : Type 0 where
  pub why : IsRefused status t
  pub now : report.now ≡ first_mark
  pub marks : report.marks ≡ []
  pub survives : Survives (λ held now. now ≡ held) t u []

-- ---- the line

-- whether a line comes before a status
abbrev pub is_told : Status → Bool
is_told ReadFault = false
is_told ReplicaDisk = false
is_told NoMemory = false
is_told _ = true

abbrev pub line_of : code_replaying.Replaying → List ℕ
line_of r = applied_words r.count (record { log = r.log; pos = r.pos }) ++ 0x0a ∷ []

-- what was written of it, by the status that all groups came to and the one that the replay ends with
abbrev pub Tells : (came ends : Status) → code_replaying.Replaying → (before after : Option (List ℕ)) → Type 0
Tells came WriteFault r before after = (is_told came ≡ true) × WroteFront before after (line_of r)
Tells came ReadFault r before after = (ReadFault ≡ came) × (after ≡ before)
Tells came ReplicaDisk r before after = (ReplicaDisk ≡ came) × (after ≡ before)
Tells came NoMemory r before after = after ≡ before
Tells came ends r before after = (ends ≡ came) × Wrote before after (line_of r)
