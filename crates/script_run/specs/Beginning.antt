-- Where a run begins: where both disks stand.
use Rattle.std.specs.Prelude.{◌≡◌, ℕ, [], length, Option, IfSome, Ok, Err}
use Rattle.disk_model.specs.Story.{Story, seen}
use Rattle.disk_model.specs.Moments.{IsSettled}
use Rattle.run_stores.specs.durable_runs.Sources.{stored_in}
use Rattle.store_model.specs.declared.record.Kind.TheVariants.{Source, Replica}
use Rattle.store_model.specs.Held.{Held}
use Rattle.store_model.specs.Stores.{Spot, held_by}
use Rattle.run_laws.specs.run_model.Run.{Starts, from_nothing}
use Rattle.run_laws.specs.Openings.{AreOwed, Begins}
use Rattle.run_stores.specs.Standing.{HasOneLog, StandAt}
use Rattle.script_run.specs.Disks.{Disks, IfBoth}

-- Both disks are settled and their files stand for what is held: the source's, with its one log up to its end, is where the source stands, behind
-- what the replica had read of the log and what it owed, and the replica's is where the replica does. So stands each pair of stores whose source
-- has one log, though nobody knows what its entries were: all of its log is then what was read of it.
pub record RunStands (t : Disks) (from : Starts) : Type 0 where
  pub settled : IsSettled t.source
  pub held : Held
  pub holds : held_by Source (seen t.source) ≡ Ok held
  pub one : HasOneLog (stored_in held (seen t.source))
  pub rep_settled : IsSettled t.replica
  pub rep_held : Held
  pub rep_holds : held_by Replica (seen t.replica) ≡ Ok rep_held
  pub owed : AreOwed from.read from.owed
  pub stand : StandAt (stored_in held (seen t.source)) rep_held from

-- And a run may begin there: what the replica owes leads from its base to the source's, and can be read from the log.
pub record RunBegins (t : Disks) (from : Starts) : Type 0 where
  pub stands : RunStands t from
  pub begins : Begins from

-- What is claimed of a run from wherever its disks stand, where both tell their stories; of what a disk has that tells nothing, nothing is
-- claimed.
abbrev pub FromEach : Disks → (Starts → Type 0) → Type 0
FromEach t Claim = IfBoth t ((from : Starts) → RunStands t from → Claim from)

-- the files of a disk that tells them stood for what a source holds, and what a replica does
abbrev pub SourceStoodFor : Option Story → Type 0
SourceStoodFor t = IfSome t (λ _. (held : Held) × (held_by Source (seen t) ≡ Ok held))

abbrev pub ReplicaStoodFor : Option Story → Type 0
ReplicaStoodFor t = IfSome t (λ _. (held : Held) × (held_by Replica (seen t) ≡ Ok held))

-- both did
pub record StoodFor (t : Disks) : Type 0 where
  pub source : SourceStoodFor t.source
  pub replica : ReplicaStoodFor t.replica

-- they stood for nothing, and this is their first place of damage
abbrev pub SourceWasDamaged : Option Story → Spot → Type 0
SourceWasDamaged t spot = IfSome t (λ _. held_by Source (seen t) ≡ Err spot)

abbrev pub ReplicaWasDamaged : Option Story → Spot → Type 0
ReplicaWasDamaged t spot = IfSome t (λ _. held_by Replica (seen t) ≡ Err spot)

-- on disks that are settled and have nothing, a run begins with nothing
abbrev pub EmptyBegins : Type 0
EmptyBegins =
    (t : Disks) → IsSettled t.source → IsSettled t.replica → ((f : ℕ) → seen t.source f ≡ []) → ((f : ℕ) → seen t.replica f ≡ [])
    → RunBegins t from_nothing

-- whatever settled disks stand for, where the source has one log there is where a run stands
abbrev pub StoresStand : Type 0
StoresStand =
    (t : Disks) (held carried : Held) → IsSettled t.source → IsSettled t.replica → held_by Source (seen t.source) ≡ Ok held
    → held_by Replica (seen t.replica) ≡ Ok carried → length held.ends ≡ 1 → (from : Starts) × RunStands t from
