-- What follows of the definitions of stores.
use Rattle.std.specs.Prelude.{◌≡◌, ◌⊎◌, ◌↔◌, ◌<◌, ℕ, ◌+◌, false, List, [], ◌∷◌, ◌++◌, length, Option, Some, Ok}
use Rattle.val_types.specs.declared.value.Value.{Value}
use Rattle.val_types.specs.declared.change.Change.{Change}
use Rattle.sql_reach.specs.catalog_rules.Bases.{Base}
use Rattle.binlog_sizes.specs.log_entries.declared.entries.Item.{Item}
use Rattle.binlog_sizes.specs.log_entries.declared.entries.Entry.{Entry}
use Rattle.binlog_sizes.specs.log_entries.declared.entries.Entry.TheVariants.{Transaction, Definition, LogStart}
use Rattle.binlog_sizes.specs.log_model.Log.{behind}
use Rattle.binlog_sizes.specs.Sizes.{row_size, changes_size}
use Rattle.disk_model.specs.Story.{Image}
use Rattle.gate_journal.specs.Records.{records, with_last}
use Rattle.store_model.specs.declared.record.Kind.{Kind}
use Rattle.store_model.specs.declared.record.Head.{Head}
use Rattle.store_model.specs.declared.record.Record.{Record}
use Rattle.store_model.specs.declared.record.Record.TheVariants.{TransactionApplied, DefinitionApplied, PlaceMoved}
use Rattle.store_model.specs.Reading.{row_in, change_in}
use Rattle.store_model.specs.Bodies.{row_bytes, change_bytes, changes_bytes, body_of, record_of, IsRow, IsChange, IsRecord}
use Rattle.store_model.specs.Held.{Held, LogEnd, changed, defined_by, carried_out, next_applied, applied}
use Rattle.store_model.specs.Snapshots.{snapshot_body, snapshot_of, is_open, IsSnapshot}
use Rattle.store_model.specs.Stores.{journal_of, first_log, held_by, HasLogs, AreLong, Stands}
use Rattle.store_model.specs.Entries.{writer_at, ends_behind, record_of_entry, IsWithin, entry_of, held_after, KeptSays}

-- ---- what was written is read

-- a record's body is read as that record
abbrev pub BodiesAreRead : Type 0
BodiesAreRead = (kind : Kind) (r : Record) → IsRecord kind r → record_of kind (body_of r) ≡ Some r

-- rows and changes are read again, whatever follows them
abbrev pub RowsAreRead : Type 0
RowsAreRead = (row : List Value) (rest : List ℕ) → IsRow row → row_in (row_bytes row ++ rest) ≡ Some (row, rest)

abbrev pub ChangesAreRead : Type 0
ChangesAreRead = (c : Change) (rest : List ℕ) → IsChange c → change_in (change_bytes c ++ rest) ≡ Some (c, rest)

-- a snapshot's body is read as its generation and what is held
abbrev pub SnapshotsAreRead : Type 0
SnapshotsAreRead = (kind : Kind) (generation : ℕ) (held : Held) → IsSnapshot kind generation held
    → snapshot_of kind (snapshot_body kind generation held) ≡ Some (generation, held)

-- rows and changes have as many bytes as is counted of a transaction's changes
abbrev pub RowsAreCounted : Type 0
RowsAreCounted = (row : List Value) → length (row_bytes row) ≡ row_size row

abbrev pub ChangesAreCounted : Type 0
ChangesAreCounted = (cs : List Change) → length (changes_bytes cs) ≡ 4 + changes_size cs

-- ---- what stands apart

-- what a store's image holds, it stands for at a generation
abbrev pub HeldStand : Type 0
HeldStand = (kind : Kind) (image : Image) (held : Held) → held_by kind image ≡ Ok held → (generation : ℕ) × Stands kind generation image held

-- and the other way
abbrev pub StandIsHeld : Type 0
StandIsHeld = (kind : Kind) (generation : ℕ) (image : Image) (held : Held) → Stands kind generation image held → held_by kind image ≡ Ok held

-- logs are there exactly where each is as long as its end says
abbrev pub LogsAreLong : Type 0
LogsAreLong = (file : ℕ) (ends : List LogEnd) (image : Image) → HasLogs file ends image ↔ AreLong file ends image

-- ---- what does not count

-- a snapshot's file is the same, or it has no open snapshot, as before
abbrev pub SameSnapshot : (file file' : List ℕ) → Type 0
SameSnapshot file file' = (file' ≡ file) ⊎ ((is_open file ≡ false) × (is_open file' ≡ false))

-- both files of snapshots are so
pub record SameSnapshots (image image' : Image) : Type 0 where
  pub zeroth : SameSnapshot (image 0) (image' 0)
  pub first : SameSnapshot (image 1) (image' 1)

-- a file of a snapshot that is not open, a journal behind its open records, the other generation's journal, a log's bytes behind its end,
-- and all other files may change: the image stands for the same
abbrev pub WhatCountsDecides : Type 0
WhatCountsDecides =
    (kind : Kind) (generation : ℕ) (image image' : Image) (held : Held) → Stands kind generation image held → SameSnapshots image image'
    → records (image' (journal_of generation)) ≡ records (image (journal_of generation)) → HasLogs first_log held.ends image'
    → Stands kind generation image' held

-- ---- one record more

-- an open record behind the others is applied to what was held
abbrev pub RecordsAreApplied : Type 0
RecordsAreApplied =
    (kind : Kind) (generation : ℕ) (image image' : Image) (body : List ℕ) (r : Record) (held now : Held) → Stands kind generation image held
    → SameSnapshots image image' → records (image' (journal_of generation)) ≡ with_last body (records (image (journal_of generation)))
    → record_of kind body ≡ Some r → applied r held ≡ Some now → HasLogs first_log now.ends image' → Stands kind generation image' now

-- ---- where entries lead on, so do their records

module _ {I : Type 0} (kept : I → Item) (changes_of : I → List Change) (define : I → Base → Option Base) where
  -- one entry that is made leaves what its record makes
  abbrev pub EntriesRecordsLead : Type 0
  EntriesRecordsLead =
      (e : Entry I) (held now : Held) → held_after kept changes_of define (e ∷ []) held ≡ Some now → KeptSays kept changes_of define e
      → IsWithin (entry_of kept e) held → applied (record_of_entry (entry_of kept e) held.number (writer_at held)) held ≡ Some now

-- behind an entry a source writes where the log that it appends to ends; a transaction or a definition needs a log that has begun
abbrev pub HasLog : Entry Item → Held → Type 0
HasLog (Transaction stamp server is) h = 0 < length h.ends
HasLog (Definition stamp server i) h = 0 < length h.ends
HasLog (LogStart stamp server) h = Unit {0}

abbrev pub WritersGoOn : Type 0
WritersGoOn = (e : Entry Item) (held : Held) → HasLog e held
    → writer_at (record held { ends = ends_behind e held.number held }) ≡ behind e held.number (writer_at held)

-- the same of a replica, which has changes of its own, and the place behind a group
pub record StepsRecordsLead : Type 0 where
  pub changes : (head : Head) (cs : List Change) (held : Held) (base : Base) → changed cs held.base ≡ Some base → head.number ≡ next_applied held.number
      → applied (TransactionApplied head cs) held ≡ Some (carried_out head held base)
  pub definitions : (head : Head) (text : List ℕ) (held : Held) (base : Base) → defined_by text held.base ≡ Some base → head.number ≡ next_applied held.number
      → applied (DefinitionApplied head text) held ≡ Some (carried_out head held base)
  pub places : (head : Head) (held : Held) → head.number ≡ held.number → applied (PlaceMoved head) held ≡ Some (carried_out head held held.base)
