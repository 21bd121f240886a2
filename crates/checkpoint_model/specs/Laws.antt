-- What follows of the definitions of checkpoints.
use Rattle.std.specs.Prelude.{◌≡◌, ◌<◌, ◌^◌, ℕ, ◌+◌, true, List, length, Some, Ok}
use Rattle.disk_model.specs.Story.{Image}
use Rattle.disk_model.specs.Torn.{Torn}
use Rattle.gate_journal.specs.Records.{records, none_from}
use Rattle.gate_journal.specs.Journal.{IsAtGate}
use Rattle.store_model.specs.declared.record.Kind.{Kind}
use Rattle.store_model.specs.Held.{Held}
use Rattle.store_model.specs.Snapshots.{snapshot_body, snapshot_of, IsSnapshot}
use Rattle.store_model.specs.Stores.{journal_of, first_log, HasLogs, Stands}
use Rattle.checkpoint_model.specs.Pieces.{checkpointed, is_to_close, pieces_of, snapshot_file}
use Rattle.checkpoint_model.specs.Moments.{AtEach, HasBody, IsOlder, IsShut, StandsEither}

-- ---- what does not count

-- where an image stands for what is held, the other file of snapshots does not count
abbrev pub OtherIsOlder : Type 0
OtherIsOlder =
    (kind : Kind) (generation : ℕ) (image : Image) (held : Held) → Stands kind generation image held
    → IsOlder kind generation (snapshot_file (generation + 1)) (image (snapshot_file (generation + 1)))

-- While that file does not count, it and the journal of the other generation may hold anything, and so may a log behind its end: the
-- image stands for the same.
abbrev pub OlderMayChange : Type 0
OlderMayChange =
    (kind : Kind) (generation : ℕ) (image image' : Image) (held : Held) → Stands kind generation image held
    → image' (snapshot_file generation) ≡ image (snapshot_file generation)
    → IsOlder kind generation (snapshot_file (generation + 1)) (image' (snapshot_file (generation + 1)))
    → image' (journal_of generation) ≡ image (journal_of generation) → HasLogs first_log held.ends image'
    → Stands kind generation image' held

-- ---- its gate and its body

-- what a crash leaves of a gate that is closed where it has to be does not count, as before; behind a closed gate anything may stand
pub record GatesClose : Type 0 where
  pub torn : (kind : Kind) (generation f : ℕ) (file file' : List ℕ) → IsOlder kind generation f file → is_to_close file ≡ true → Torn 0 1 file file' → IsOlder kind generation f file'
  pub shut : (kind : Kind) (generation f : ℕ) (file : List ℕ) → IsShut file → IsOlder kind generation f file
  pub behind : (n : ℕ) (file file' : List ℕ) → IsShut file → Torn 1 n file file' → IsShut file'

-- an open snapshot of the next generation, whose journal has no record, counts: the image stands for what it has
abbrev pub NewestCounts : Type 0
NewestCounts =
    (kind : Kind) (generation : ℕ) (image image' : Image) (held : Held) (body file : List ℕ) → Stands kind generation image held
    → image' (snapshot_file generation) ≡ image (snapshot_file generation) → HasBody body file → Torn 0 1 file (image' (snapshot_file (generation + 1)))
    → length body < 2 ^ 64 → snapshot_of kind body ≡ Some (generation + 1, held)
    → image' (journal_of generation) ≡ image (journal_of generation) → records (image' (journal_of (generation + 1))) ≡ Ok (none_from 0)
    → HasLogs first_log held.ends image' → StandsEither kind generation held image'

-- ---- a whole checkpoint

-- each image of each moment stands for what is held, at the generation that counts or at the next one
abbrev pub CheckpointsKeep : Type 0
CheckpointsKeep =
    (kind : Kind) (generation : ℕ) (image : Image) (held : Held) → Stands kind generation image held → IsSnapshot kind (generation + 1) held
    → length (snapshot_body kind (generation + 1) held) < 2 ^ 64
    → AtEach (λ image'. HasLogs first_log held.ends image' → StandsEither kind generation held image')
    (pieces_of kind (generation + 1) held (image (snapshot_file (generation + 1)))) image

-- behind the last piece it does so at the next generation, whose journal has no record
abbrev pub CheckpointsLead : Type 0
CheckpointsLead =
    (kind : Kind) (generation : ℕ) (image : Image) (held : Held) → Stands kind generation image held → IsSnapshot kind (generation + 1) held
    → length (snapshot_body kind (generation + 1) held) < 2 ^ 64
    → Stands kind (generation + 1) (checkpointed kind generation held image) held
    × IsAtGate (checkpointed kind generation held image (journal_of (generation + 1))) 0
