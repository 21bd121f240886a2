-- What is held, by what was read of it.
use Rattle.std.specs.Prelude.{◌≡◌, ℕ, ◌+◌, ◌==◌, ◌≤◌, ◌<◌, length, Bool, true, false, List, [], Option, Some, None, Result, Ok, Err, IfSome}
use Rattle.table_rules.specs.Tables.{Table}
use Rattle.disk_model.specs.declared.refusals.OpenRefusal.{OpenRefusal}
use Rattle.disk_model.specs.declared.refusals.OpenRefusal.TheVariants.{Disk, Damaged, NoMemory}
use Rattle.disk_model.specs.Story.{Story, seen}
use Rattle.disk_model.specs.Moments.{Only}
use Rattle.prog_work.specs.Contents.{Contents, base_of}
use Rattle.store_model.specs.sql_reach.catalog_rules.Bases.{Base}
use Rattle.store_model.specs.declared.record.Kind.{Kind}
use Rattle.store_model.specs.declared.record.Record.{Record}
use Rattle.store_model.specs.declared.record.Record.TheVariants.{Transaction, Definition, LogStart, TransactionApplied, DefinitionApplied, PlaceMoved}
use Rattle.store_model.specs.Held.{LogEnd, Held, committed, log_begun, carried_out, changed, defined_by, is_next_commit, begins_log, next_applied, most_logs}
use Rattle.store_model.specs.Stores.{begun_from, held_by, journal_applied, first_log, first_short}
use Rattle.store_model.specs.declared.record.Kind.TheVariants.{Replica}
pub use Rattle.store_bodies.specs.Ends.{ends_at}
use Rattle.store_load.specs.declared.reached.Reached.{Reached}
use Rattle.store_load.specs.declared.stored.Stored.{Stored}

-- what is held, by a base and how far a store has come
abbrev pub held_of : Base → Reached → Held
held_of base reached = record {
  base = base;
  number = reached.number;
  ends = ends_at reached.ends;
  place = record { log = reached.log; pos = reached.pos };
}

-- what was read
abbrev pub held_in : Stored → Held
held_in s = held_of (base_of s.work) s.reached

-- ---- one record

-- whether a record may be the next one, whatever its changes or its text
abbrev pub is_next : Record → Held → Bool
is_next (Transaction head cs) h = is_next_commit head h
is_next (Definition head text) h = is_next_commit head h
is_next (LogStart head old_end) h = begins_log head old_end h
is_next (TransactionApplied head cs) h = head.number == next_applied h.number
is_next (DefinitionApplied head text) h = head.number == next_applied h.number
is_next (PlaceMoved head) h = head.number == h.number

-- the base that a record makes
abbrev pub base_made : Record → Base → Option Base
base_made (Transaction head cs) base = changed cs base
base_made (Definition head text) base = defined_by text base
base_made (LogStart head old_end) base = Some base
base_made (TransactionApplied head cs) base = changed cs base
base_made (DefinitionApplied head text) base = defined_by text base
base_made (PlaceMoved head) base = Some base

-- what is held behind it, with that base
abbrev pub behind : Record → Held → Base → Held
behind (Transaction head cs) h base = committed head h base
behind (Definition head text) h base = committed head h base
behind (LogStart head old_end) h base = record (log_begun head old_end h) { base = base }
behind (TransactionApplied head cs) h base = carried_out head h base
behind (DefinitionApplied head text) h base = carried_out head h base
behind (PlaceMoved head) h base = carried_out head h base

-- ---- what calls come to

-- tables were made, or none could be
abbrev pub TablesAre : Bool → Option (List Table) → List Table → Type 0
TablesAre true made after = made ≡ Some after
TablesAre false made after = made ≡ None

-- a base was made, with no change to take back, or none could be
abbrev pub BaseIs : Bool → Option Base → Contents → Type 0
BaseIs true made after = (made ≡ Some (base_of after)) × (after.changes ≡ [])
BaseIs false made after = made ≡ None

-- what is held was made, or could not be
abbrev pub HeldIs : Bool → Option Held → Held → Type 0
HeldIs true made after = made ≡ Some after
HeldIs false made after = made ≡ None

-- Records were applied to what was read: it is of the same node and generation; no change is open; a replica's ends, which are none,
-- stay; and a source that had not too many logs has not.
pub record Reads (before after : Stored) : Type 0 where
  pub node : after.node ≡ before.node
  pub generation : after.generation ≡ before.generation
  pub changes : after.work.changes ≡ []
  pub own : before.node ≡ Replica → ends_at after.reached.ends ≡ ends_at before.reached.ends
  pub few : length before.reached.ends ≤ most_logs → length after.reached.ends ≤ most_logs

-- and the journal is as before
pub record GoesOn (before after : Stored) : Type 0 where
  pub reads : Reads before after
  pub journal : after.journal ≡ before.journal

-- rows alone were changed
pub record ChangesTables (before after : Contents) : Type 0 where
  pub objects : after.objects ≡ before.objects
  pub counters : after.counters ≡ before.counters

-- damage of a journal's file, where what stood before it is held
abbrev pub TellsGate : {A : Type 0} → Option Story → Kind → ℕ → Held → Result A OpenRefusal → Type 0
TellsGate t kind file h (Ok x) = Unit {0}
TellsGate t kind file h (Err Disk) = Unit {0}
TellsGate t kind file h (Err NoMemory) = Unit {0}
TellsGate t kind file h (Err (Damaged f at)) = IfSome t (λ _. (f ≡ file) × (journal_applied kind (seen t file) h ≡ Err at))

-- a log that is shorter than its end is told at its length
abbrev pub TellsShort : {A : Type 0} → Option Story → (file end : ℕ) → Result A OpenRefusal → Type 0
TellsShort t file end (Ok x) = Unit {0}
TellsShort t file end (Err Disk) = Unit {0}
TellsShort t file end (Err NoMemory) = Unit {0}
TellsShort t file end (Err (Damaged f at)) = IfSome t (λ _. (f ≡ file) × (at ≡ length (seen t file)) × (at < end))

-- the first such log
abbrev pub TellsFirstShort : {A : Type 0} → Option Story → List LogEnd → Result A OpenRefusal → Type 0
TellsFirstShort t ends (Ok x) = Unit {0}
TellsFirstShort t ends (Err Disk) = Unit {0}
TellsFirstShort t ends (Err NoMemory) = Unit {0}
TellsFirstShort t ends (Err (Damaged f at)) = IfSome t (λ _. first_short first_log ends (seen t) ≡ Some (record { file = f; at = at }))

-- so many logs are durable as they are read
abbrev pub LogsAreSettled : Option Story → (count : ℕ) → Type 0
LogsAreSettled t count = (f : ℕ) → first_log ≤ f → f < first_log + count → Only t f (seen t f)

-- ---- the whole store

-- what was read is what the snapshots of a disk begin with
abbrev pub Begins : Option Story → Stored → Type 0
Begins t s = IfSome t (λ _. begun_from s.node (seen t) ≡ Ok (s.generation, held_in s))

-- the first place of damage
abbrev pub TellsDamage : {A : Type 0} → Option Story → Kind → Result A OpenRefusal → Type 0
TellsDamage t kind (Ok x) = Unit {0}
TellsDamage t kind (Err Disk) = Unit {0}
TellsDamage t kind (Err NoMemory) = Unit {0}
TellsDamage t kind (Err (Damaged f at)) = IfSome t (λ _. held_by kind (seen t) ≡ Err (record { file = f; at = at }))
