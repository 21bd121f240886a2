-- What a crash leaves of both disks at any moment of a run.
use Rattle.std.specs.Prelude.{◌≡◌, ◌⊎◌, ◌≤◌, ℕ, List, [], ◌++◌, map, Option, IfSome, Ok}
use Rattle.port_traits.specs.declared.identity.Draw.{Draw}
use Rattle.port_traits.specs.declared.identity.Identity.{Identity}
use Rattle.answer_text.specs.declared.report.Mark.{Mark}
use Rattle.disk_model.specs.Story.{Story, count, seen}
use Rattle.disk_model.specs.Moments.{Since}
use Rattle.store_model.specs.declared.record.Kind.TheVariants.{Source, Replica}
use Rattle.store_model.specs.Entries.{writer_at}
use Rattle.store_model.specs.Held.{Held}
use Rattle.store_model.specs.Stores.{held_by}
use Rattle.run_stores.specs.durable_runs.Marks.{AreBehind, named, replica_mark, served_mark, source_mark}
use Rattle.run_stores.specs.durable_runs.Runs.{CallsFit}
use Rattle.run_stores.specs.durable_runs.Sources.{SourceImage, SourceLasts, Stored, stored_in}
use Rattle.run_stores.specs.durable_runs.Replicas.{Carries, CarriesTo, IsCarried, ReplicaImage, Served, StateImage}
use Rattle.run_laws.specs.log_entries.declared.entries.Entry.{Entry}
use Rattle.run_laws.specs.session_model.Machine.{Whole}
use Rattle.run_laws.specs.session_model.Openings.{opening_entries}
use Rattle.run_laws.specs.session_replays.Followed.{EntriesFollow}
use Rattle.run_laws.specs.run_model.replica_model.Replica.{Replica as ReplicaNow}
use Rattle.run_laws.specs.run_model.Asked.{Asked}
use Rattle.run_laws.specs.run_model.Run.{Names, Both, Starts, both_from, end_of, next, number_before, place_before, source_from}
use Rattle.run_laws.specs.run_model.States.{IsOnTheWay, IsStateOf}
use Rattle.durable_replica.specs.replica_node.Kept.{held_of}

-- ---- the source's disk

-- Each image of each moment since the run began, inside a write too, holds what the source's store held behind some first entries of these:
-- the base and the number that they lead to, and in each log, up to its end, what stood there and what they put there. Its number is no
-- less than the marks until then name, of which none says more calls than the disk has had.
pub record Survives (t u : Option Story) (entries : List (Entry Whole)) (marks : List Mark) : Type 0 where
  pub held : Held
  pub holds : held_by Source (seen t) ≡ Ok held
  pub images : CallsFit u → Since (count t) u (SourceImage (stored_in held (seen t)) entries marks)
  pub behind : CallsFit u → IfSome u (λ _. AreBehind (count u) (map source_mark marks))

-- a run of the source's disk so far, over what its machine put out, with all its marks
abbrev pub Lasted : (t u : Option Story) → Stored → List (Entry Whole) → List Mark → Type 0
Lasted t u start entries marks = CallsFit u → SourceLasts t u start entries marks

-- all that a source has put out where a command was begun and not carried out: what it had before, or with what the command puts out at some draw
abbrev pub MayPut : Names → Both → Asked → List (Entry Whole) → Type 0
MayPut names b c put = (put ≡ b.machine.history) ⊎ ((at : Draw) × (put ≡ (next names b c at).both.machine.history))

-- where nothing was begun: nothing, or what opening puts out on what its store held, at some draw
abbrev pub MayPutFirst : Held → List (Entry Whole) → Type 0
MayPutFirst held put = (put ≡ []) ⊎ ((identity : Identity) × ((at : Draw) × (put ≡ opening_entries identity at (writer_at held))))

-- what lasted up to a moment goes on to a later one, whenever it began
abbrev pub LastsOn : (t u : Option Story) → Stored → (before after : List (Entry Whole)) → (old new : List Mark) → Type 0
LastsOn t u start before after old new = (first : Option Story) → Lasted first t start before old → Lasted first u start after new

-- What may stand on the source's disk where no command was begun: what it held, with what opening put out, if it did.
pub record SurvivesOpening (t u : Option Story) (held : Held) : Type 0 where
  pub put : List (Entry Whole)
  pub may : MayPutFirst held put
  pub survives : Survives t u put []

-- so it is where its files stood for something
abbrev pub SourceOpens : (t u : Option Story) → Type 0
SourceOpens t u = IfSome t (λ _. (held : Held) → held_by Source (seen t) ≡ Ok held → SurvivesOpening t u held)

-- ---- the replica's disk

-- Each image of each moment since the run began holds one of some states, whose number is no less than the marks until then name, of which
-- none says more calls than the disk has had.
pub record ReplicaSurvives (t u : Option Story) (State : Held → Type 0) (marks : List Mark) : Type 0 where
  pub held : Held
  pub holds : held_by Replica (seen t) ≡ Ok held
  pub images : CallsFit u → Since (count t) u (StateImage State held marks)
  pub behind : CallsFit u → IfSome u (λ _. AreBehind (count u) (map replica_mark marks))

-- what a store holds that has what a replica is while a command is carried out, and at some moment of commands
abbrev pub IsHeldOnTheWay : Names → Both → Asked → Draw → Held → Type 0
IsHeldOnTheWay names b c draw held = (r : ReplicaNow) × (IsOnTheWay names b c draw r × (held ≡ held_of r))

abbrev pub IsHeldOf : Names → Both → List Asked → List Draw → Held → Type 0
IsHeldOf names b cs draws held = (r : ReplicaNow) × (IsStateOf names b cs draws r × (held ≡ held_of r))

-- Whatever is held at a moment of these commands has carried out the first of the entries that were owed as the run began and of those that the
-- source put out until their end: its place is behind them, and where they do the same at every replica, its base is what they make of the one
-- that the replica had.
abbrev pub HasCarriedPrefix : Names → (src : Draw) → Starts → List Asked → List Draw → Type 0
HasCarriedPrefix names src from cs draws =
    (held : Held) → IsHeldOf names (both_from names src from) cs draws held
    → IsCarried EntriesFollow (held_of from.replica) (from.owed ++ (end_of names (both_from names src from) cs draws).machine.history) (number_before from.read)
    (place_before from.read) held

-- So each image of each moment of its disk since the run began, inside a write too, has carried out a prefix of these: it holds the place behind them
-- and, where they do the same at every replica, the base that they make. Its number is no less than any that the marks until then name as carried
-- out, and no more than one that they name as committed, or than what the source had as the run began.
abbrev pub ReplicaRecovers : Names → (src : Draw) → Starts → List Asked → List Draw → (t u : Option Story) → List Mark → Type 0
ReplicaRecovers names src from cs draws t u marks =
    CallsFit u → Since (count t) u (ReplicaImage EntriesFollow (held_of from.replica) (from.owed ++ (end_of names (both_from names src from) cs draws).machine.history)
    (number_before from.read) (place_before from.read) (source_from from).committed marks)

-- so many transactions are named as committed by marks that were pushed before any later call of the replica's disk
abbrev pub NamesAll : Option Story → (start committed : ℕ) → List Mark → Type 0
NamesAll t start committed marks = committed ≤ named start (map served_mark marks) (count t)

-- a command leaves it so of all that its source has committed then
abbrev pub NamesOn : (t u : Option Story) → (before after : ℕ) → (old new : List Mark) → Type 0
NamesOn t u before after old new = (start : ℕ) → CallsFit u → NamesAll t start before old → NamesAll u start after new

-- No image of the replica's disk since the run began holds more transactions than the source had committed by then, and the marks name all that
-- it has committed by now.
pub record ServedSince (t u : Option Story) (start committed : ℕ) (marks : List Mark) : Type 0 where
  pub served : Served start (count t) u marks
  pub named_all : NamesAll u start committed marks

-- a command that was carried out leads the disk from what the replica was to what it is, through nothing but what it is on the way
abbrev pub CarriesOn : (t u : Option Story) → Names → Both → Asked → Draw → (old new : List Mark) → Type 0
CarriesOn t u names b c draw old new =
    CallsFit u → CarriesTo (IsHeldOnTheWay names b c draw) t u (held_of b.replica) (held_of (next names b c draw).both.replica) old new

-- one that was not leads it on the way
abbrev pub CarriesSome : (t u : Option Story) → Names → Both → Asked → Draw → (old new : List Mark) → Type 0
CarriesSome t u names b c draw old new = CallsFit u → Carries (IsHeldOnTheWay names b c draw) t u (held_of b.replica) old new

-- a run of the replica's disk so far, through the states of its commands, from what its store held to what the replica is now
abbrev pub CarriedSince : (t u : Option Story) → Names → Both → List Asked → List Draw → (now : ReplicaNow) → List Mark → Type 0
CarriedSince t u names b cs draws now marks = CallsFit u → CarriesTo (IsHeldOf names b cs draws) t u (held_of b.replica) (held_of now) [] marks

-- where no command was begun: what it held stays
abbrev pub ReplicaOpens : (t u : Option Story) → Type 0
ReplicaOpens t u = IfSome t (λ _. (held : Held) → held_by Replica (seen t) ≡ Ok held → ReplicaSurvives t u (λ now. now ≡ held) [])
