-- What follows of runs.
use Rattle.std.specs.Prelude.{◌≡◌, ◌≤◌, ◌<◌, ◌^◌, ◌⊎◌, ℕ, List, [], ◌∷◌, ◌++◌, map, Option, Some, None, Ok, IfSome}
use Rattle.std.specs.Option.{option_and_then}
use Rattle.answer_text.specs.declared.report.Mark.{Mark}
use Rattle.disk_model.specs.Story.{Image, Story, count, seen}
use Rattle.disk_model.specs.Moments.{Each, Since, Always, GoesOn, IsSettled}
use Rattle.session_model.specs.log_entries.declared.entries.Item.{Item}
use Rattle.session_model.specs.log_entries.declared.entries.Entry.{Entry}
use Rattle.session_model.specs.log_entries.declared.entries.Entry.TheVariants.{Transaction, Definition, LogStart}
use Rattle.session_model.specs.log_entries.Entries.{after}
use Rattle.session_model.specs.log_model.Log.{LogPlace, log, counted_all, written_to}
use Rattle.session_model.specs.Machine.{Whole, kept_entry, nowhere}
use Rattle.session_model.specs.Holding.{EntryMade, EntriesMade, changes_of, define}
use Rattle.store_model.specs.declared.record.Kind.TheVariants.{Source}
use Rattle.store_model.specs.declared.record.Record.{Record}
use Rattle.store_model.specs.Held.{Held, nothing_held}
use Rattle.gate_journal.specs.Records.{records, with_last}
use Rattle.store_model.specs.Bodies.{record_of}
use Rattle.store_model.specs.Stores.{journal_of, first_log, held_by, HasLogs, Stands}
use Rattle.store_model.specs.Entries.{writer_at, record_of_entry, IsWithin}
use Rattle.store_model.specs.Laws.{HasLog, SameSnapshots}
use Rattle.durable_runs.specs.Marks.{Named, named, Between, NameNow, RiseByOne, AreBehind, last_named, source_mark, replica_mark, served_mark}
use Rattle.durable_runs.specs.Runs.{Side, behind_steps, Claim, Runs, Lasts}
use Rattle.waiting_entries.specs.Added.{added_to}
use Rattle.durable_runs.specs.Sources.{Stored, SourceStands, log_in, stored_in, entry_stored, held_after, records_of, records_applied, AreWithin, source_side, SourceLasts, SourceRuns, SourceImage}
use Rattle.durable_runs.specs.Replicas.{replica_side, ReplicaRuns, ReplicaLasts, RunsBoth, Served, IsCarried, AreCarried, ReplicaImage}
use Rattle.durable_runs.specs.Behind.{Behind, nothing_stored}

-- ---- marks

-- later marks lower nothing that is named, and a later moment neither
abbrev pub NamedRises : Type 0
NamedRises = (start n m : ℕ) (marks more : List Named) → n ≤ m → named start marks n ≤ named start (marks ++ more) m

-- marks of later calls name nothing yet
abbrev pub LaterNameNothing : Type 0
LaterNameNothing =
    (start n calls number : ℕ) (marks more : List Named) → n < calls → Between calls number more → named start (marks ++ more) n ≡ named start marks n

-- marks that rise by one go on so, from the number that the last of them names; which is what is named when all calls have returned
pub record RisesGoOn : Type 0 where
  pub join : (start : ℕ) (marks more : List Named) → RiseByOne start marks → RiseByOne (last_named start marks) more → RiseByOne start (marks ++ more)
  pub ends : (start n : ℕ) (marks : List Named) → RiseByOne start marks → AreBehind n marks → named start marks n ≡ last_named start marks

-- ---- one side

module _ {S X : Type 0} (side : Side S X) where
  -- How runs come to be, and how they compose.
  pub record RunsCompose : Type 0 where
    -- a disk that tells nothing has no images, so nothing is to be shown
    pub untold : (s : S) (xs : List X) (a more : List Named) → Runs side None None s xs a (a ++ more)
    -- no call was made
    pub none : (t : Option Story) (s : S) (a : List Named) → Each t (side.Stands s) → Runs side t t s [] a a
    -- calls that keep what the store has, as reads and syncs do
    pub kept : (t u : Option Story) (s : S) (a : List Named) → GoesOn t u → Always (count t) u (side.Stands s) → Runs side t u s [] a a
    -- a commit that failed, wherever it did, or that needs no mark
    pub failed : (t u : Option Story) (s now : S) (x : X) (a : List Named) → side.step x s ≡ Some now → side.number s ≤ side.number now → GoesOn t u
        → Always (count t) u (λ image. side.Stands s image ⊎ side.Stands now image) → Runs side t u s (x ∷ []) a a
    -- a commit that was kept, and its mark behind its last call
    pub committed : (t u : Option Story) (s now : S) (x : X) (a : List Named) (m : Named) → side.step x s ≡ Some now → side.number s ≤ side.number now
        → GoesOn t u → Always (count t) u (λ image. side.Stands s image ⊎ side.Stands now image) → Each u (side.Stands now)
        → IfSome u (λ _. m.calls ≡ count u) → m.number ≡ side.number now → Runs side t u s (x ∷ []) a (a ++ m ∷ [])
    -- a run is one of more steps, of which it came to the first
    pub more : (t u : Option Story) (s : S) (xs ys : List X) (a b : List Named) → Runs side t u s xs a b
        → ((mid now : S) → behind_steps side xs s ≡ Some mid → behind_steps side ys mid ≡ Some now → side.number mid ≤ side.number now)
        → Runs side t u s (xs ++ ys) a b
    -- one run behind another
    pub join : (t u v : Option Story) (s mid : S) (xs ys : List X) (a b c : List Named) → Runs side t u s xs a b → behind_steps side xs s ≡ Some mid
        → Runs side u v mid ys b c → Runs side t v s (xs ++ ys) a c
    -- the other side pushed marks, while this disk was not called
    pub idle : (t : Option Story) (s : S) (a more : List Named) → Each t (side.Stands s) → IfSome t (λ _. NameNow (count t) (side.number s) more)
        → Runs side t t s [] a (a ++ more)
    -- the same behind a run
    pub rest : (t u : Option Story) (s now : S) (xs : List X) (a b more : List Named) → Runs side t u s xs a b → behind_steps side xs s ≡ Some now
        → Each u (side.Stands now) → IfSome u (λ _. NameNow (count u) (side.number now) more) → Runs side t u s xs a (b ++ more)

  -- A whole run: it begins on a settled disk, goes on run by run, and claims in the end that each image of each moment is as it says, and
  -- that no mark says more calls than the disk has had.
  pub record RunsLast : Type 0 where
    pub begins : (t : Option Story) (s : S) → IsSettled t → IfSome t (λ _. side.Stands s (seen t)) → Lasts side t t s [] []
    pub goes_on : (t u v : Option Story) (s mid : S) (xs ys : List X) (a b : List Named) → Lasts side t u s xs a → behind_steps side xs s ≡ Some mid
        → Runs side u v mid ys a b → Lasts side t v s (xs ++ ys) b
    pub rests : (t u : Option Story) (s now : S) (xs : List X) (a more : List Named) → Lasts side t u s xs a → behind_steps side xs s ≡ Some now
        → Each u (side.Stands now) → IfSome u (λ _. NameNow (count u) (side.number now) more) → Lasts side t u s xs (a ++ more)
    pub ends : (t u : Option Story) (s : S) (xs : List X) (marks : List Named) → Lasts side t u s xs marks → Since (count t) u (Claim side s xs marks)
    pub behind : (t u : Option Story) (s : S) (xs : List X) (marks : List Named) → Lasts side t u s xs marks → IfSome u (λ _. AreBehind (count u) marks)

-- ---- a source

-- what is held behind entries goes on from what is held behind the first of them
abbrev pub HeldGoesOn : Type 0
HeldGoesOn = (front back : List (Entry Whole)) (held : Held) → held_after (front ++ back) held ≡ option_and_then (held_after back) (held_after front held)

-- it is what their records make, one after the other, where each entry is within what a store may have
abbrev pub RecordsLead : Type 0
RecordsLead =
    (es : List (Entry Whole)) (held now : Held) → EntriesMade es → AreWithin es held → held_after es held ≡ Some now
    → records_applied (records_of (map kept_entry es) held.number (writer_at held)) held ≡ Some now

-- the first of entries can be logged: a log has begun, or the entry begins one
abbrev pub HasFirstLog : List (Entry Whole) → Held → Type 0
HasFirstLog [] held = Unit {0}
HasFirstLog (e ∷ es) held = HasLog (kept_entry e) held

-- what a store with its logs has behind entries: base, number, the writer's place, and what the entries put behind each log
pub record StoredBehind (es : List (Entry Whole)) (s now : Stored) : Type 0 where
  pub held : held_after es s.held ≡ Some now.held
  pub base : after changes_of define es s.held.base ≡ Some now.held.base
  pub number : now.held.number ≡ counted_all (map kept_entry es) s.held.number
  pub writer : writer_at now.held ≡ written_to (map kept_entry es) s.held.number (writer_at s.held)
  pub logs : (n : ℕ) → now.logs n ≡ s.logs n ++ added_to n (map kept_entry es) s.held.number (writer_at s.held)

-- where entries can be made, a store with its logs has that behind them, and where it has something, it is that
pub record StoresGoOn : Type 0 where
  pub some : (es : List (Entry Whole)) (s : Stored) (held : Held) → held_after es s.held ≡ Some held
      → (now : Stored) × ((behind_steps source_side es s ≡ Some now) × (now.held ≡ held))
  pub is : (es : List (Entry Whole)) (s now : Stored) → HasFirstLog es s.held → behind_steps source_side es s ≡ Some now → StoredBehind es s now
  pub rises : (es : List (Entry Whole)) (s now : Stored) → behind_steps source_side es s ≡ Some now → s.held.number ≤ now.held.number

-- what entries put behind a log goes on
abbrev pub AddedGoesOn : Type 0
AddedGoesOn = (n : ℕ) (front back : List (Entry Item)) (number : ℕ) (p : LogPlace)
    → added_to n (front ++ back) number p ≡ added_to n front number p ++ added_to n back (counted_all front number) (written_to front number p)

-- entries that begin no log
abbrev pub BeginNone : List (Entry Item) → Type 0
BeginNone [] = Unit {0}
BeginNone (Transaction stamp server is ∷ es) = BeginNone es
BeginNone (Definition stamp server i ∷ es) = BeginNone es
BeginNone (LogStart stamp server ∷ es) = ⊥

-- within one log it is the bytes of the entries; so it is in the first log, with the head in front
pub record OneLog : Type 0 where
  pub within : (es : List (Entry Item)) (number : ℕ) (p : LogPlace) → BeginNone es → added_to p.log es number p ≡ log es number p
  pub first : (stamp server : ℕ) (es : List (Entry Item)) → BeginNone es
      → added_to 1 (LogStart stamp server ∷ es) 0 nowhere ≡ log (LogStart stamp server ∷ es) 0 nowhere

-- The images of a commit. Where what counts is the same, and the logs up to their ends, an image stands for the same; with the record of an
-- entry open behind the others, and the logs as they are behind it, it stands for what the store has behind the entry.
pub record SourcesStand : Type 0 where
  pub same : (generation : ℕ) (s : Stored) (image image' : Image) → Stands Source generation image s.held → SourceStands s image → SameSnapshots image image'
      → records (image' (journal_of generation)) ≡ records (image (journal_of generation)) → HasLogs first_log s.held.ends image'
      → ((n : ℕ) → log_in n s.held.ends image' ≡ log_in n s.held.ends image) → SourceStands s image'
  pub more : (generation : ℕ) (s now : Stored) (e : Entry Whole) (body : List ℕ) (image image' : Image) → Stands Source generation image s.held
      → entry_stored e s ≡ Some now → EntryMade e → IsWithin (kept_entry e) s.held → SameSnapshots image image'
      → records (image' (journal_of generation)) ≡ with_last body (records (image (journal_of generation)))
      → record_of Source body ≡ Some (record_of_entry (kept_entry e) s.held.number (writer_at s.held)) → HasLogs first_log now.held.ends image'
      → ((n : ℕ) → log_in n now.held.ends image' ≡ now.logs n) → SourceStands now image'

-- A run on a settled disk begins with what is read of it; and in the end each image of each moment holds what a prefix of the entries left,
-- and no mark says more calls than the disk has had.
pub record SourcesLast : Type 0 where
  pub begins : (t : Option Story) (held : Held) → IsSettled t → IfSome t (λ _. held_by Source (seen t) ≡ Ok held) → SourceLasts t t (stored_in held (seen t)) [] []
  pub images : (t u : Option Story) (s : Stored) (es : List (Entry Whole)) (marks : List Mark) → HasFirstLog es s.held → SourceLasts t u s es marks
      → Since (count t) u (SourceImage s es marks)
  pub behind : (t u : Option Story) (s : Stored) (es : List (Entry Whole)) (marks : List Mark) → SourceLasts t u s es marks
      → IfSome u (λ _. AreBehind (count u) (map source_mark marks))

-- ---- a replica

-- a number of 64 bits stays one, and does not fall
abbrev pub ReplicasRise : Type 0
ReplicasRise =
    (rs : List Record) (held now : Held) → held.number < 2 ^ 64 → behind_steps replica_side rs held ≡ Some now
    → (held.number ≤ now.number) × (now.number < 2 ^ 64)

-- What was served goes on. A run of a replica serves no more than its source had committed before, as the marks until its first call say;
-- and what holds of two runs one behind the other holds of both.
pub record ServedGoesOn : Type 0 where
  pub runs : (t u : Option Story) (start : ℕ) (held last : Held) (records : List Record) (a b : List Mark) → held.number < 2 ^ 64 → ReplicaRuns t u held records a b
      → behind_steps replica_side records held ≡ Some last → last.number ≤ named start (map served_mark b) (count t) → Served start (count t) u b
  pub more : (start calls : ℕ) (t : Option Story) (a more : List Mark) → Served start calls t a → Served start calls t (a ++ more)
  pub join : (start : ℕ) (t u v : Option Story) (a more : List Mark) → GoesOn t u → GoesOn u v → Served start (count t) u a → Served start (count u) v (a ++ more)
      → Served start (count t) v (a ++ more)

-- What was carried out goes on, with entries that come later, and with steps that do, whatever makes entries do the same at every replica.
pub record CarriedGoesOn (follows : List (Entry Whole) → Type 0) : Type 0 where
  pub entries : (before : Held) (es more : List (Entry Whole)) (number : ℕ) (writer : LogPlace) (now : Held)
      → IsCarried follows before es number writer now → IsCarried follows before (es ++ more) number writer now
  pub steps : (before : Held) (es : List (Entry Whole)) (number : ℕ) (writer : LogPlace) (held mid : Held) (front back : List Record)
      → AreCarried follows before es number writer held front → behind_steps replica_side front held ≡ Some mid
      → AreCarried follows before es number writer mid back → AreCarried follows before es number writer held (front ++ back)

-- In the end each image of each moment of a replica's run is as it says, where what the replica holds behind each prefix of its steps has
-- carried out a prefix of the entries.
abbrev pub ReplicasLast : (follows : List (Entry Whole) → Type 0) → Type 0
ReplicasLast follows =
    (t u : Option Story) (held : Held) (rs : List Record) (es : List (Entry Whole)) (number : ℕ) (writer : LogPlace) (committed : ℕ)
    (marks : List Mark) → ReplicaLasts t u held rs marks → Served committed (count t) u marks
    → AreCarried follows held es number writer held rs → Since (count t) u (ReplicaImage follows held es number writer committed marks)

-- ---- both disks

pub record BothCompose : Type 0 where
  -- one run over both disks behind another
  pub join : (s s' s'' r r' r'' : Option Story) (from from' : Stored) (held held' : Held) (es es' : List (Entry Whole)) (rs rs' : List Record) (a b c : List Mark)
      → RunsBoth s s' from es r r' held rs a b → behind_steps source_side es from ≡ Some from' → behind_steps replica_side rs held ≡ Some held'
      → RunsBoth s' s'' from' es' r' r'' held' rs' b c → RunsBoth s s'' from (es ++ es') r r'' held (rs ++ rs') a c
  -- a command of the source, while the replica's disk is not called
  pub of_source : (s s' r : Option Story) (from : Stored) (held : Held) (es : List (Entry Whole)) (a more : List Mark) → SourceRuns s s' from es a (a ++ more)
      → Each r (replica_side.Stands held) → IfSome r (λ _. NameNow (count r) held.number (map replica_mark more))
      → RunsBoth s s' from es r r held [] a (a ++ more)
  -- a command of the replica, while the source's disk is not called
  pub of_replica : (s r r' : Option Story) (from : Stored) (held : Held) (rs : List Record) (a more : List Mark) → ReplicaRuns r r' held rs a (a ++ more)
      → Each s (source_side.Stands from) → IfSome s (λ _. NameNow (count s) from.held.number (map source_mark more))
      → RunsBoth s s from [] r r' held rs a (a ++ more)

-- ---- what is owed

-- where neither has anything nothing is owed
abbrev pub NothingIsOwed : Type 0
NothingIsOwed = Behind nothing_stored nothing_held []
