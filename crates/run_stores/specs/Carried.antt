-- What a replica has carried out of what its source logged, at any moment of a run.
--
-- What equals what. A run begins where a replica's store is behind its source's. Whatever the replica is at some moment of it has carried
-- out the first of the entries that were owed then and of those that the source has put out since (`IsCarried` of durable_runs): its place
-- is where a reader stands behind them, and where they do the same at every replica, its base is what they make of the one that its store
-- had. It has counted no more transactions than the source has committed.
use Rattle.std.specs.Prelude.{◌≡◌, ◌≤◌, ℕ, List, [], ◌++◌, Option}
use Rattle.port_traits.specs.declared.identity.Draw.{Draw}
use Rattle.answer_text.specs.declared.report.Mark.{Mark}
use Rattle.disk_model.specs.Moments.{Since}
use Rattle.disk_model.specs.Story.{Story}
use Rattle.store_model.specs.Held.{Held}
use Rattle.durable_runs.specs.Replicas.{IsCarried, ReplicaImage, Served, StateImage}
use Rattle.durable_runs.specs.Sources.{Stored}
use Rattle.run_laws.specs.log_entries.declared.entries.Entry.{Entry}
use Rattle.run_laws.specs.session_model.Holding.{Holds}
use Rattle.run_laws.specs.session_model.Machine.{Whole}
use Rattle.run_laws.specs.session_replays.Followed.{EntriesFollow}
use Rattle.run_laws.specs.run_model.replica_model.Replica.{Replica}
use Rattle.run_laws.specs.run_model.replica_model.Replaying.{Replay}
use Rattle.run_laws.specs.run_model.Asked.{Asked}
use Rattle.run_laws.specs.run_model.Run.{Names, Both, Starts, number_before, place_before, source_from, end_of}
use Rattle.run_laws.specs.run_model.Following.{Follows}
use Rattle.run_laws.specs.run_model.States.{IsOnTheWay, IsStateOf}
use Rattle.run_laws.specs.Fronts.{HasReplayed}
use Rattle.run_laws.specs.Laws.{IsSound, OfEach}
use Rattle.run_laws.specs.Openings.{Begins}
use Rattle.run_stores.specs.Standing.{StandAt}

-- what a replica has that a store keeps
abbrev pub held_in : Replica → Held
held_in r = record { base = r.base; number = r.number; ends = []; place = r.place }

-- what was owed as the run began, and what the source has put out since
abbrev pub logged : Both → List (Entry Whole)
logged b = b.from.owed ++ b.machine.history

-- it has carried out the first of these
abbrev pub HasCarried : (before : Held) → Both → Replica → Type 0
HasCarried before b r = IsCarried EntriesFollow before (logged b) (number_before b.from.read) (place_before b.from.read) (held_in r)

-- it has no more transactions than the source has committed
abbrev pub IsServed : Both → Replica → Type 0
IsServed b r = r.number ≤ b.machine.state.shared.committed

-- ---- laws

-- so it is of a replica that follows, where the run began behind its store
abbrev pub FollowersHaveCarried : Type 0
FollowersHaveCarried =
    (names : Names) (b : Both) (source : Stored) (replica : Held) → Follows names b → Begins b.from → StandAt source replica b.from → HasCarried replica b b.replica

-- and where the source counts what it has put out
abbrev pub FollowersAreServed : Type 0
FollowersAreServed = (names : Names) (b : Both) → Follows names b → Begins b.from → Holds (source_from b.from) b.machine → IsServed b b.replica

-- so it is on the way of each command
abbrev pub CarriedOnTheWay : Type 0
CarriedOnTheWay =
    (names : Names) (b : Both) (c : Asked) (draw : Draw) (source : Stored) (replica : Held) (r : Replica) → Follows names b → IsSound b.from b.machine
    → Begins b.from → StandAt source replica b.from → IsOnTheWay names b c draw r → HasCarried replica b r × IsServed b r

-- a source is sound before each command
abbrev pub AllSound : Names → Both → List Asked → List Draw → Type 0
AllSound names b cs ds = OfEach (λ before c draw. IsSound before.from before.machine) names b cs ds

-- and at each moment of a run: of all that the source put out until its end
abbrev pub StatesHaveCarried : Type 0
StatesHaveCarried =
    (names : Names) (b : Both) (cs : List Asked) (ds : List Draw) (source : Stored) (replica : Held) (r : Replica) → Follows names b → AllSound names b cs ds
    → Begins b.from → StandAt source replica b.from → IsStateOf names b cs ds r → HasCarried replica (end_of names b cs ds) r

-- what a store holds that has what a replica is at some moment of commands
abbrev pub IsHeldState : Names → Both → List Asked → List Draw → Held → Type 0
IsHeldState names b cs ds held = (r : Replica) × (IsStateOf names b cs ds r × (held ≡ held_in r))

-- So each image of each moment of its disk has carried out the first of all that its source logged, where it holds what the replica was at some
-- moment, and no more than was served.
abbrev pub ImagesHaveCarried : Type 0
ImagesHaveCarried =
    (names : Names) (b : Both) (cs : List Asked) (ds : List Draw) (source : Stored) (replica : Held) (t : Option Story) (calls committed : ℕ) (marks : List Mark)
    → Follows names b → AllSound names b cs ds → Begins b.from → StandAt source replica b.from
    → Since calls t (StateImage (IsHeldState names b cs ds) replica marks) → Served committed calls t marks
    → Since calls t (ReplicaImage EntriesFollow replica (logged (end_of names b cs ds)) (number_before b.from.read) (place_before b.from.read) committed marks)

-- ---- a log that is replayed

-- what a replay has that a store keeps
abbrev pub held_of_replay : Replay → Held
held_of_replay s = record { base = s.base; number = s.number; ends = []; place = s.place }

-- where it has carried out the first of what a replica owed, so has what a store holds of it
abbrev pub ReplayedIsCarried : Type 0
ReplayedIsCarried =
    (from : Starts) (s : Replay) → Begins from → HasReplayed from s
    → IsCarried EntriesFollow (held_in from.replica) from.owed (number_before from.read) (place_before from.read) (held_of_replay s)
