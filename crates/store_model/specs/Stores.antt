-- What an image of a store stands for: what it holds, or the first place where it is damaged.
use Rattle.std.specs.Prelude.{◌≡◌, ◌≤◌, ℕ, zero, suc, ◌+◌, ◌%◌, nat_lt, if◌then◌else◌, List, [], ◌∷◌, length, take, drop, Option, Some, None, Result, Ok, Err}
use Rattle.disk_model.specs.Story.{Image}
use Rattle.gate_journal.specs.declared.record.NextRecord.{NextRecord}
use Rattle.gate_journal.specs.declared.record.NextRecord.TheVariants.{End, Record, Damaged}
use Rattle.gate_journal.specs.Records.{record_at, records, Opened}
use Rattle.store_model.specs.declared.record.Kind.{Kind}
use Rattle.store_model.specs.Held.{LogEnd, Held, nothing_held, body_applied, bodies_applied}
use Rattle.store_model.specs.Snapshots.{is_open, snapshot_in}

-- a place in a file
pub record Spot : Type 0 where
  pub file : ℕ
  pub at : ℕ

-- ---- where the journal begins

-- the snapshot of a file, damaged at its first byte; none where it is not open
abbrev pub begun_by : (f : ℕ) → Option (ℕ × Held) → Result (Option (ℕ × Held)) Spot
begun_by f None = Err (record { file = f; at = 0 })
begun_by f (Some begun) = Ok (Some begun)

abbrev pub begun_in : Kind → Image → (f : ℕ) → Result (Option (ℕ × Held)) Spot
begun_in kind image f = if is_open (image f) then begun_by f (snapshot_in kind f (image f)) else Ok None

-- the greater generation; without a snapshot nothing, at generation 0
abbrev pub greater : Option (ℕ × Held) → Option (ℕ × Held) → ℕ × Held
greater None None = (0, nothing_held)
greater (Some a) None = a
greater None (Some b) = b
greater (Some a) (Some b) = if nat_lt a.0 b.0 then b else a

abbrev pub greater_if : Result (Option (ℕ × Held)) Spot → Result (Option (ℕ × Held)) Spot → Result (ℕ × Held) Spot
greater_if (Err spot) b = Err spot
greater_if (Ok a) (Err spot) = Err spot
greater_if (Ok a) (Ok b) = Ok (greater a b)

-- the generation, and what its journal goes on from: files 0 and 1 are for snapshots
unfoldable pub begun_from : Kind → Image → Result (ℕ × Held) Spot
begun_from kind image = greater_if (begun_in kind image 0) (begun_in kind image 1)

-- ---- the journal

-- the file of a generation's journal: 2 or 3
abbrev pub journal_of : ℕ → ℕ
journal_of generation = 2 + generation % 2

-- what is made of the record at a gate, and then of those behind it; the gate of one that is not whole or cannot be the next
abbrev pub gone_on : (gate : ℕ) → (Held → Result Held ℕ) → Option Held → Result Held ℕ
gone_on gate behind None = Err gate
gone_on gate behind (Some h) = behind h

abbrev pub by_next : Kind → NextRecord → List ℕ → (gate : ℕ) → (ℕ → Held → Result Held ℕ) → Held → Result Held ℕ
by_next kind End file gate behind h = Ok h
by_next kind (Record size) file gate behind h = gone_on gate (behind (gate + 5 + size)) (body_applied kind (take size (drop (gate + 5) file)) h)
by_next kind Damaged file gate behind h = Err gate

-- what the open records from a gate on make of what is held, at most n of them
abbrev pub applied_from : Kind → ℕ → List ℕ → (gate : ℕ) → Held → Result Held ℕ
applied_from kind zero file gate h = Ok h
applied_from kind (suc n) file gate h = by_next kind (record_at file gate) file gate (applied_from kind n file) h

-- what the open records of a journal's file make of it, or the gate of the first that is damaged
unfoldable pub journal_applied : Kind → List ℕ → Held → Result Held ℕ
journal_applied kind file h = applied_from kind (length file) file 0 h

-- ---- the logs

-- the first log that is shorter than its end, at its length; a source's logs stand from file 8 on
abbrev pub first_short : (file : ℕ) → List LogEnd → Image → Option Spot
first_short file [] image = None
first_short file (e ∷ ends) image =
    if nat_lt (length (image file)) e.pos then Some (record { file = file; at = length (image file) }) else first_short (file + 1) ends image

abbrev pub first_log : ℕ
first_log = 8

-- ---- all of them, in this order: the snapshots, the journal, the logs

abbrev pub unless_short : Option Spot → Held → Result Held Spot
unless_short None h = Ok h
unless_short (Some spot) h = Err spot

abbrev pub with_logs : (file : ℕ) → Image → Result Held ℕ → Result Held Spot
with_logs file image (Err at) = Err (record { file = file; at = at })
with_logs file image (Ok h) = unless_short (first_short first_log h.ends image) h

abbrev pub with_journal : Kind → Image → Result (ℕ × Held) Spot → Result Held Spot
with_journal kind image (Err spot) = Err spot
with_journal kind image (Ok begun) = with_logs (journal_of begun.0) image (journal_applied kind (image (journal_of begun.0)) begun.1)

-- what a store's image holds, or its first place of damage
unfoldable pub held_by : Kind → Image → Result Held Spot
held_by kind image = with_journal kind image (begun_from kind image)

-- ---- the same, apart

-- the logs are as long as their ends say
abbrev pub HasLogs : (file : ℕ) → List LogEnd → Image → Type 0
HasLogs file ends image = first_short file ends image ≡ None

-- each is, from a file on
abbrev pub AreLong : (file : ℕ) → List LogEnd → Image → Type 0
AreLong file [] image = Unit {0}
AreLong file (e ∷ ends) image = (e.pos ≤ length (image file)) × AreLong (file + 1) ends image

-- an image stands for what is held, at a generation: its snapshots leave something to begin from, its journal's open records are whole and
-- lead on from there, and its logs are there
pub record Stands (kind : Kind) (generation : ℕ) (image : Image) (held : Held) : Type 0 where
  pub begun : Held
  pub from : begun_from kind image ≡ Ok (generation, begun)
  pub opened : Opened
  pub read : records (image (journal_of generation)) ≡ Ok opened
  pub made : bodies_applied kind opened.bodies begun ≡ Some held
  pub logs : HasLogs first_log held.ends image
