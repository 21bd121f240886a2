-- What may stand on a replica's disk, and on both disks of a run.
use Rattle.std.specs.Prelude.{◌≡◌, ◌≤◌, ℕ, List, length, map, take, Option, Some, Ok}
use Rattle.answer_text.specs.declared.report.Mark.{Mark}
use Rattle.disk_model.specs.Story.{Image, Story}
use Rattle.disk_model.specs.Moments.{Since}
use Rattle.session_model.specs.log_entries.declared.entries.Entry.{Entry}
use Rattle.session_model.specs.log_entries.Entries.{after}
use Rattle.session_model.specs.log_model.Log.{LogPlace, end}
use Rattle.session_model.specs.Machine.{Whole, kept_entry}
use Rattle.session_model.specs.Holding.{changes_of, define}
use Rattle.store_model.specs.declared.record.Kind.TheVariants.{Replica}
use Rattle.store_model.specs.declared.record.Record.{Record}
use Rattle.store_model.specs.Held.{Held, applied}
use Rattle.store_model.specs.Stores.{held_by}
use Rattle.durable_runs.specs.Marks.{named, replica_mark, served_mark}
use Rattle.durable_runs.specs.Runs.{Side, behind_steps, Runs, Lasts}
use Rattle.durable_runs.specs.Sources.{Stored, SourceRuns}

-- an image holds this, as a replica's store
abbrev pub ReplicaStands : Held → Image → Type 0
ReplicaStands held image = held_by Replica image ≡ Ok held

-- A replica's steps are the records of what it carried out, whose changes are its own: what its source did is not in them.
abbrev pub replica_side : Side Held Record
replica_side = record { step = applied; number = λ held. held.number; Stands = ReplicaStands }

-- a run of a replica over its steps, with the marks that it pushed behind the old ones
abbrev pub ReplicaRuns : (t u : Option Story) → Held → List Record → (old new : List Mark) → Type 0
ReplicaRuns t u held rs old new = Runs replica_side t u held rs (map replica_mark old) (map replica_mark new)

abbrev pub ReplicaLasts : (t u : Option Story) → Held → List Record → List Mark → Type 0
ReplicaLasts t u held rs marks = Lasts replica_side t u held rs (map replica_mark marks)

-- ---- what a replica is meanwhile

-- What a replica holds behind each prefix of its steps from somewhere on is one of some states.
abbrev pub AreStates : (Held → Type 0) → Held → List Record → Type 0
AreStates P held rs = (k : ℕ) (now : Held) → behind_steps replica_side (take k rs) held ≡ Some now → P now

-- A run of a replica over some records, behind each of which it holds one of some states.
pub record Carries (P : Held → Type 0) (t u : Option Story) (held : Held) (old new : List Mark) : Type 0 where
  pub records : List Record
  pub states : AreStates P held records
  pub runs : ReplicaRuns t u held records old new

-- ... and it comes to this.
pub record CarriesTo (P : Held → Type 0) (t u : Option Story) (held last : Held) (old new : List Mark) : Type 0 where
  pub carries : Carries P t u held old new
  pub reached : behind_steps replica_side carries.records held ≡ Some last

-- When n calls of the replica's disk had returned, an image of it holds one of the states, whose number is no less than any that a mark of
-- up to n calls names.
pub record StateImage (P : Held → Type 0) (before : Held) (marks : List Mark) (n : ℕ) (image : Image) : Type 0 where
  pub now : Held
  pub stands : held_by Replica image ≡ Ok now
  pub state : P now
  pub holds : named before.number (map replica_mark marks) n ≤ now.number

-- ---- no more than what was served

-- At each moment since the start an image holds no more transactions than the source had committed by then.
abbrev pub Served : (start calls : ℕ) → Option Story → List Mark → Type 0
Served start calls t marks =
    Since calls t (λ n image. (now : Held) → held_by Replica image ≡ Ok now → now.number ≤ named start (map served_mark marks) n)

-- ---- what a run promises of an image

-- What a replica holds that has carried out the first of entries, which a writer logged at a place behind so many transactions: it stands
-- where a reader stands behind them, and where they do the same at every replica, as `follows` says of entries, its base is what they make of
-- the first.
pub record IsCarried (follows : List (Entry Whole) → Type 0) (before : Held) (entries : List (Entry Whole)) (number : ℕ) (writer : LogPlace) (now : Held) : Type 0 where
  pub first : ℕ
  pub within : first ≤ length entries
  pub place : now.place ≡ end before.place (map kept_entry entries) first number writer
  pub base : follows (take first entries) → after changes_of define (take first entries) before.base ≡ Some now.base

-- What a replica holds behind each prefix of its steps from somewhere on has carried out the first of these entries.
abbrev pub AreCarried : (follows : List (Entry Whole) → Type 0) (before : Held) (entries : List (Entry Whole)) (number : ℕ) (writer : LogPlace) → Held → List Record → Type 0
AreCarried follows before entries number writer held rs = AreStates (IsCarried follows before entries number writer) held rs

-- When n calls of the replica's disk had returned, an image of it holds what has carried out the first of the entries. Its number is no less
-- than any that a mark of up to n calls names as carried out, and no more than one as committed, or than what the source had at its start.
pub record ReplicaImage (follows : List (Entry Whole) → Type 0) (before : Held) (entries : List (Entry Whole)) (number : ℕ) (writer : LogPlace) (committed : ℕ)
    (marks : List Mark) (n : ℕ) (image : Image) : Type 0 where
  pub now : Held
  pub stands : held_by Replica image ≡ Ok now
  pub carried : IsCarried follows before entries number writer now
  pub holds : named before.number (map replica_mark marks) n ≤ now.number
  pub served : now.number ≤ named committed (map served_mark marks) n

-- ---- both disks

-- Both disks of a run, each with its own claim over the same marks: what the one's calls kept, the other's marks name.
pub record RunsBoth (s s' : Option Story) (from : Stored) (entries : List (Entry Whole)) (r r' : Option Story) (held : Held) (records : List Record)
    (old new : List Mark) : Type 0 where
  pub source : SourceRuns s s' from entries old new
  pub replica : ReplicaRuns r r' held records old new
