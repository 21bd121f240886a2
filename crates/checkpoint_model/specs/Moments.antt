-- What a crash leaves at each moment of a checkpoint, and what of it does not count.
use Rattle.std.specs.Prelude.{◌≡◌, ◌≢◌, ◌⊎◌, ◌<◌, ℕ, ◌+◌, false, List, [], ◌∷◌, ◌++◌, length, slice_index, Some}
use Rattle.disk_model.specs.Story.{Image}
use Rattle.disk_model.specs.Torn.{Torn}
use Rattle.store_model.specs.declared.record.Kind.{Kind}
use Rattle.store_model.specs.Held.{Held}
use Rattle.store_model.specs.Snapshots.{is_open, snapshot_in}
use Rattle.store_model.specs.Stores.{first_log, Stands}
use Rattle.checkpoint_model.specs.Pieces.{Piece, put, snapshot_framed}

-- ---- a snapshot's file

-- its gate is there, and closed
pub record IsShut (file : List ℕ) : Type 0 where
  pub some : 0 < length file
  pub gate : slice_index file 0 ≡ 0

-- it does not count at a generation: it is not open, or has the snapshot of a smaller generation
abbrev pub IsOlder : Kind → (generation f : ℕ) → (file : List ℕ) → Type 0
IsOlder kind generation f file =
    (is_open file ≡ false) ⊎ ((begun : ℕ × Held) × ((snapshot_in kind f file ≡ Some begun) × (begun.0 < generation)))

-- a snapshot of this body stands behind the gate, whatever follows it
pub record HasBody (body file : List ℕ) : Type 0 where
  pub gate : ℕ
  pub rest : List ℕ
  pub is : file ≡ gate ∷ (snapshot_framed body ++ rest)

-- ---- images

-- a crash while a piece is put may leave this of an image: the piece's range is torn, and the other files of snapshots and journals stay
pub record IsTornBy (p : Piece) (image image' : Image) : Type 0 where
  pub torn : Torn p.at (length p.bytes) (image p.file) (image' p.file)
  pub others : (f : ℕ) → f < first_log → f ≢ p.file → image' f ≡ image f

-- each image has P that a crash may leave while pieces are put one after the other, and behind the last
abbrev pub AtEach : (Image → Type 0) → List Piece → Image → Type 0
AtEach P [] image = P image
AtEach P (p ∷ ps) image = ((image' : Image) → IsTornBy p image image' → P image') × AtEach P ps (put p image)

-- an image stands for what is held, at a generation or at the next one
abbrev pub StandsEither : Kind → (generation : ℕ) → Held → Image → Type 0
StandsEither kind generation held image = Stands kind generation image held ⊎ Stands kind (generation + 1) image held
