-- How the replay of a log ends.
use Rattle.std.specs.Prelude.{◌≡◌, ◌⊎◌, ◌≤◌, ℕ, List, [], ◌∷◌, length, map, take, Option, Some, None, IfSome, Ok, Err}
use Rattle.port_traits.specs.declared.identity.Identity.{Identity}
use Rattle.port_traits.specs.declared.identity.Draw.{Draw}
use Rattle.answer_text.specs.declared.report.Mark.{Mark}
use Rattle.answer_text.specs.declared.report.Report.{Report}
use Rattle.answer_text.specs.declared.status.Status.{Status}
use Rattle.answer_text.specs.declared.status.Status.TheVariants.{Done, BadWords, BadScript, ReadFault, WriteFault, SourceDisk, ReplicaDisk, SourceDamaged, ReplicaDamaged, LogDamaged, LogForeign, Differs, NoMemory}
use Rattle.disk_model.specs.Story.{Story, count, seen}
use Rattle.disk_model.specs.Moments.{Each, Since}
use Rattle.store_model.specs.declared.record.Kind.TheVariants.{Replica as OfReplica}
use Rattle.store_model.specs.Held.{Held}
use Rattle.store_model.specs.Stores.{held_by}
use Rattle.durable_replica.specs.store_replica.durable_runs.Marks.{AreBehind, last_named, replica_mark}
use Rattle.durable_replica.specs.store_replica.durable_runs.Replicas.{ReplicaStands, StateImage}
use Rattle.durable_replica.specs.store_replica.durable_runs.Runs.{CallsFit}
use Rattle.durable_replica.specs.store_replica.Pushed.{NameInTurn}
use Rattle.durable_replica.specs.replica_node.apply_model.Stops.{Differs as Stop}
use Rattle.durable_replica.specs.replica_node.replica_model.Replica.{Replica, reopened, replica_from}
use Rattle.durable_replica.specs.replica_node.replica_model.Replaying.{Replay, all_replayed, replay_by, replayed_from}
use Rattle.durable_replica.specs.replica_node.replica_model.Lines.{replayed_line}
use Rattle.run_streams.specs.Reports.{first_mark}
use Rattle.run_streams.specs.Wrote.{Wrote, WroteFront}
use Rattle.log_reader.specs.log_file_model.Walk.{Ending, ended, damaged, foreign, Piece, grouped_from}

-- ---- what is told

-- the report tells who the replica is and its one draw, and nothing of a source
pub record Reports (identity : Identity) (draw : Draw) (report : Report) : Type 0 where
  pub source : report.src_identity ≡ None
  pub replica : report.rep_identity ≡ Some identity
  pub src_draws : report.src_draws ≡ []
  pub rep_draws : report.rep_draws ≡ draw ∷ []
  pub now : report.now ≡ first_mark

-- A mark for each group that was carried out, of which there are so many: each names the number behind the one before it, from a number on
-- up to another, and says of no command and of no source.
pub record AreMarks (first count last : ℕ) (marks : List Mark) : Type 0 where
  pub named : NameInTurn first_mark first marks
  pub each : length marks ≡ count
  pub reached : last_named first (map replica_mark marks) ≡ last

-- ---- what is on the replica's disk

-- The replica with which the replay began: where the disk tells its story, its files stood for what is held, and the replica opened on
-- that; on another disk it opened on something.
pub record Opened (t : Option Story) (from : Replica) : Type 0 where
  pub counters : from ≡ reopened from
  pub held : IfSome t (λ _. (held : Held) × (held_by OfReplica (seen t) ≡ Ok held) × (from ≡ replica_from held.base held.number held.place))

-- what a store has to hold behind some groups of a replay
abbrev pub held_in : Replay → Held
held_in s = record { base = s.base; number = s.number; ends = []; place = s.place }

-- that is what is read of the disk now, and what each crash leaves
pub record Holds (u : Option Story) (s : Replay) : Type 0 where
  pub read : IfSome u (λ _. held_by OfReplica (seen u) ≡ Ok (held_in s))
  pub left : Each u (ReplicaStands (held_in s))

-- what a store holds behind the first of some groups, which a replica carried out
pub record IsBehind (identity : Identity) (draw : Draw) (from : Replica) (pieces : List Piece) (held : Held) : Type 0 where
  pub first : ℕ
  pub within : first ≤ length pieces
  pub is : held ≡ held_in (all_replayed identity draw (take first pieces) (replay_by from))

-- Whatever the disk's files stood for: each image of each moment since then, inside a write too, holds one of the states, whose number is no
-- less than the marks until then name.
abbrev pub Survives : (Held → Held → Type 0) → (t u : Option Story) → List Mark → Type 0
Survives State t u marks =
    (held : Held) → IfSome t (λ _. held_by OfReplica (seen t) ≡ Ok held) → CallsFit u → Since (count t) u (StateImage (State held) held marks)

-- ---- how far it came

-- The replica was opened, and the groups of the log on the input are carried out from its place on, at the draw of its opening: each image
-- of its disk holds what the first of them make, and no mark says more calls than that has had.
pub record Replays (input : Option (List ℕ)) (t u : Option Story) (report : Report) : Type 0 where
  pub identity : Identity
  pub draw : Draw
  pub told : Reports identity draw report
  pub from : Replica
  pub opened : Opened t from
  pub bytes : List ℕ
  pub input_is : IfSome input (λ all. all ≡ bytes)
  pub survives : Survives (λ held. IsBehind identity draw from (grouped_from from.place.pos bytes).pieces) t u report.marks
  pub behind : CallsFit u → IfSome u (λ _. AreBehind (count u) (map replica_mark report.marks))

-- what that comes to
abbrev pub behind_all : {input : Option (List ℕ)} {t u : Option Story} {report : Report} → Replays input t u report → Replay
behind_all r = replayed_from r.identity r.draw r.from r.bytes

-- All groups that are carried out were: the marks name each, and the disk has what they make.
pub record CarriedOut {input : Option (List ℕ)} {t u : Option Story} {report : Report} (r : Replays input t u report) : Type 0 where
  pub marks : AreMarks r.from.number (behind_all r).count (behind_all r).number report.marks
  pub holds : Holds u (behind_all r)

-- the log ends so, all its groups were carried out, and the line that tells how many these are was written
pub record Replayed (ending : Ending) (input : Option (List ℕ)) (t u : Option Story) (report : Report) (before after : Option (List ℕ)) : Type 0 where
  pub replays : Replays input t u report
  pub carried : CarriedOut replays
  pub ends : (grouped_from replays.from.place.pos replays.bytes).ending ≡ ending
  pub through : (behind_all replays).stop ≡ None
  pub wrote : Wrote before after (replayed_line (behind_all replays))

-- an item has no effect, and the line of the groups before it was written
pub record Stopped (stop : Stop) (input : Option (List ℕ)) (t u : Option Story) (report : Report) (before after : Option (List ℕ)) : Type 0 where
  pub replays : Replays input t u report
  pub carried : CarriedOut replays
  pub stops : (behind_all replays).stop ≡ Some stop
  pub wrote : Wrote before after (replayed_line (behind_all replays))

-- a front of the line was written
pub record ReplayedFront (input : Option (List ℕ)) (t u : Option Story) (report : Report) (before after : Option (List ℕ)) : Type 0 where
  pub replays : Replays input t u report
  pub carried : CarriedOut replays
  pub front : WroteFront before after (replayed_line (behind_all replays))

-- A stream or the disk failed, or memory was short, on the way: nothing was written, and the marks name the groups that were kept.
pub record Ceased (input : Option (List ℕ)) (t u : Option Story) (report : Report) (before after : Option (List ℕ)) : Type 0 where
  pub replays : Replays input t u report
  pub named : NameInTurn first_mark replays.from.number report.marks
  pub written : after ≡ before

-- The replica was not opened: nothing was read and nothing written, there is no mark, and the disk holds what it held.
pub record NotOpened (input left : Option (List ℕ)) (t u : Option Story) (report : Report) (before after : Option (List ℕ)) : Type 0 where
  pub unread : left ≡ input
  pub written : after ≡ before
  pub now : report.now ≡ first_mark
  pub marks : report.marks ≡ []
  pub survives : Survives (λ held now. now ≡ held) t u []

-- How it ends, by its status, with what the input had before and has left, the stories of the replica's disk, the report, and the output
-- before and after. A status without a case here cannot come.
abbrev pub ReplayEnds : Status → (input left : Option (List ℕ)) → (t u : Option Story) → Report → (before after : Option (List ℕ)) → Type 0
ReplayEnds Done input left t u report before after = Replayed ended input t u report before after × IfSome left (λ rest. rest ≡ [])
ReplayEnds (LogDamaged pos) input left t u report before after = Replayed (damaged pos) input t u report before after
ReplayEnds (LogForeign pos kind) input left t u report before after = Replayed (foreign pos kind) input t u report before after
ReplayEnds (Differs pos code table key) input left t u report before after =
    Stopped (record { place = pos; code = code; table = table; key = key }) input t u report before after
ReplayEnds ReadFault input left t u report before after = Ceased input t u report before after
ReplayEnds WriteFault input left t u report before after = ReplayedFront input t u report before after
ReplayEnds ReplicaDisk input left t u report before after = NotOpened input left t u report before after ⊎ Ceased input t u report before after
ReplayEnds (ReplicaDamaged file at) input left t u report before after =
    IfSome t (λ _. held_by OfReplica (seen t) ≡ Err (record { file = file; at = at })) × NotOpened input left t u report before after
ReplayEnds NoMemory input left t u report before after = NotOpened input left t u report before after ⊎ Ceased input t u report before after
ReplayEnds BadWords input left t u report before after = ⊥
ReplayEnds (BadScript at) input left t u report before after = ⊥
ReplayEnds SourceDisk input left t u report before after = ⊥
ReplayEnds (SourceDamaged file at) input left t u report before after = ⊥
