-- What a checkpoint puts on a disk: the snapshot of the next generation, and the gates of its two files.
use Rattle.std.specs.Prelude.{ℕ, ◌+◌, ◌-◌, ◌^◌, ◌%◌, ◌==◌, ◌||◌, nat_le, Bool, if◌then◌else◌, List, [], ◌∷◌, ◌++◌, length}
use Rattle.disk_model.specs.Story.{Image, overwritten}
use Rattle.store_model.specs.declared.record.Kind.{Kind}
use Rattle.store_model.specs.Bodies.{text_bytes}
use Rattle.store_model.specs.Held.{Held}
use Rattle.store_model.specs.Snapshots.{is_open, snapshot_body}
use Rattle.store_model.specs.Stores.{journal_of}

-- ---- files

-- the file of a generation's snapshot: 0 or 1
abbrev pub snapshot_file : (generation : ℕ) → ℕ
snapshot_file generation = generation % 2

-- the last generation that eight bytes can say: behind it there is no checkpoint
abbrev pub last_generation : ℕ
last_generation = 2 ^ 64 - 1

-- a snapshot as its file has it behind the gate: how long its body is, in eight bytes, and the body
abbrev pub snapshot_framed : (body : List ℕ) → List ℕ
snapshot_framed body = text_bytes 8 body

-- ---- pieces

-- a piece that is put: written into a file from a place on, and synced
pub record Piece : Type 0 where
  pub file : ℕ
  pub at : ℕ
  pub bytes : List ℕ

-- Whether the gate of a snapshot's file has to be closed before what is behind it changes: it is open, or the file has at most one byte. A
-- gate that is closed before other bytes is not written again, since a crash inside that write could open what stands behind it.
abbrev pub is_to_close : List ℕ → Bool
is_to_close file = nat_le (length file) 1 || is_open file

-- the gate of the snapshot's file closed, where it has to be
abbrev pub closing : (generation : ℕ) → (file : List ℕ) → List Piece
closing generation file = if is_to_close file then record { file = snapshot_file generation; at = 0; bytes = 0 ∷ [] } ∷ [] else []

-- The pieces of a checkpoint to a generation, in their order, where that generation's snapshot comes into this file: its gate closed, where
-- it has to be; the first gate of the generation's journal closed; the snapshot's length and body; its gate opened.
abbrev pub pieces_of : Kind → (generation : ℕ) → Held → (file : List ℕ) → List Piece
pieces_of kind generation held file =
    closing generation file
    ++ record { file = journal_of generation; at = 0; bytes = 0 ∷ [] }
    ∷ record { file = snapshot_file generation; at = 1; bytes = snapshot_framed (snapshot_body kind generation held) }
    ∷ record { file = snapshot_file generation; at = 0; bytes = 1 ∷ [] }
    ∷ []

-- ---- an image with pieces put

abbrev pub put : Piece → Image → Image
put p image f = if f == p.file then overwritten p.at p.bytes (image p.file) else image f

-- one after the other
abbrev pub all_put : List Piece → Image → Image
all_put [] image = image
all_put (p ∷ ps) image = all_put ps (put p image)

-- what a checkpoint from a generation leaves of an image that stands for what is held
abbrev pub checkpointed : Kind → (generation : ℕ) → Held → Image → Image
checkpointed kind generation held image =
    all_put (pieces_of kind (generation + 1) held (image (snapshot_file (generation + 1)))) image
