-- What a replay comes to where its replica is behind the log's source: the headline's part that speaks of a log.
--
-- What equals what. A replica's store stood behind a source's (`Begins`), and the input is a front of that source's log (`IsFrontOf`), cut
-- anywhere behind the replica's place. Whatever the status is, each image of each moment of the replica's disk has carried out the first of what
-- it owed (`IsCarried`): it holds the place behind them and, where they do the same at every replica (`EntriesFollow`), the base that they make.
-- Where all that it owed does so, the replay stops at nothing but a fault, want of memory, the log's end or the place at which it was cut; and of
-- a whole log it carries out all, and holds the source's base.
use Rattle.std.specs.Prelude.{◌≡◌, ◌≤◌, ◌<◌, ℕ, List, ◌++◌, length, map, Option, Some, IfSome, Ok}
use Rattle.answer_text.specs.declared.report.Mark.{Mark}
use Rattle.answer_text.specs.declared.report.Report.{Report}
use Rattle.answer_text.specs.declared.status.Status.{Status}
use Rattle.answer_text.specs.declared.status.Status.TheVariants.{Done, ReadFault, WriteFault, ReplicaDisk, LogDamaged, NoMemory}
use Rattle.disk_model.specs.Story.{Image, Story, count, seen}
use Rattle.disk_model.specs.Moments.{Since}
use Rattle.store_model.specs.declared.record.Kind.TheVariants.{Replica as OfReplica}
use Rattle.store_model.specs.Held.{Held}
use Rattle.store_model.specs.Stores.{held_by}
use Rattle.script_run.specs.run_stores.durable_runs.Marks.{named, replica_mark}
use Rattle.script_run.specs.run_stores.durable_runs.Replicas.{IsCarried}
use Rattle.script_run.specs.run_stores.durable_runs.Runs.{CallsFit}
use Rattle.script_run.specs.run_stores.run_laws.log_entries.declared.entries.Entry.{Entry}
use Rattle.script_run.specs.run_stores.run_laws.session_model.Machine.{Whole}
use Rattle.script_run.specs.run_stores.run_laws.session_replays.Followed.{EntriesFollow}
use Rattle.script_run.specs.run_stores.run_laws.run_model.replica_model.Replaying.{Replay}
use Rattle.script_run.specs.run_stores.run_laws.run_model.Run.{Starts, number_before, place_before}
use Rattle.script_run.specs.run_stores.run_laws.Fronts.{HasReplayedAll, IsFrontOf, ends_at, log_at}
use Rattle.script_run.specs.run_stores.run_laws.Openings.{Begins}
use Rattle.script_run.specs.run_stores.Carried.{held_in, held_of_replay}
use Rattle.replay_log.specs.Ends.{ReplayEnds}

-- ---- where a replay begins

-- The disk's files stand for what the replica has, which is behind its source, and the input has the first bytes of that source's log.
pub record BeginsBehind (t : Option Story) (input : Option (List ℕ)) (from : Starts) (bytes : List ℕ) : Type 0 where
  pub held : held_by OfReplica (seen t) ≡ Ok (held_in from.replica)
  pub given : input ≡ Some bytes
  pub begins : Begins from
  pub front : IsFrontOf from bytes

-- ---- what may stand on its disk

-- When n calls of the disk had returned, an image of it has carried out the first of what was owed, no fewer than the marks until then name.
pub record FrontImage (from : Starts) (marks : List Mark) (n : ℕ) (image : Image) : Type 0 where
  pub now : Held
  pub stands : held_by OfReplica image ≡ Ok now
  pub carried : IsCarried EntriesFollow (held_in from.replica) from.owed (number_before from.read) (place_before from.read) now
  pub holds : named from.replica.number (map replica_mark marks) n ≤ now.number

-- so each image of each moment since the replay began, inside a write too
abbrev pub RecoversFront : Starts → (t u : Option Story) → List Mark → Type 0
RecoversFront from t u marks = CallsFit u → Since (count t) u (FrontImage from marks)

-- ---- why it stops

-- The log was cut within a group, which begins at this place behind the groups of the first of what was owed.
pub record IsCut (from : Starts) (bytes : List ℕ) (pos : ℕ) : Type 0 where
  pub front : List (Entry Whole)
  pub left : List (Entry Whole)
  pub all : from.owed ≡ front ++ left
  pub there : pos ≡ ends_at from.read front
  pub within : pos < length bytes
  pub cut : bytes ≡ log_at from → ⊥

-- at the log's end, where it was cut, at a fault, or for want of memory, and at nothing else
abbrev pub StopsAt : Status → Starts → List ℕ → Type 0
StopsAt Done from bytes = Unit {0}
StopsAt (LogDamaged pos) from bytes = IsCut from bytes pos
StopsAt ReadFault from bytes = Unit {0}
StopsAt WriteFault from bytes = Unit {0}
StopsAt ReplicaDisk from bytes = Unit {0}
StopsAt NoMemory from bytes = Unit {0}
StopsAt _ from bytes = ⊥

-- ---- what it comes to

-- at Done of a whole log the disk holds the source's base, at the log's end
pub record HoldsAll (from : Starts) (u : Option Story) : Type 0 where
  pub replay : Replay
  pub all : HasReplayedAll from replay
  pub held : IfSome u (λ _. held_by OfReplica (seen u) ≡ Ok (held_of_replay replay))

abbrev pub HoldsAllAt : Status → Starts → Option Story → Type 0
HoldsAllAt Done from u = HoldsAll from u
HoldsAllAt _ from u = Unit {0}

pub record ReplayFollows (status : Status) (from : Starts) (bytes : List ℕ) (t u : Option Story) (report : Report) : Type 0 where
  pub recovers : RecoversFront from t u report.marks
  pub stops : EntriesFollow from.owed → StopsAt status from bytes
  pub whole : EntriesFollow from.owed → bytes ≡ log_at from → HoldsAllAt status from u

-- so it comes out wherever the replica is behind the log's source, where its disk tells its story
abbrev pub FollowsReplay : Status → (input : Option (List ℕ)) → (t u : Option Story) → Report → Type 0
FollowsReplay status input t u report = IfSome t (λ _. (from : Starts) (bytes : List ℕ) → BeginsBehind t input from bytes → ReplayFollows status from bytes t u report)

-- which is what follows of how a replay ends
abbrev pub ReplaysFollow : Type 0
ReplaysFollow =
    (status : Status) (input left : Option (List ℕ)) (t u : Option Story) (report : Report) (before after : Option (List ℕ))
    → ReplayEnds status input left t u report before after → FollowsReplay status input t u report
