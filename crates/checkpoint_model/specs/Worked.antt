-- Checkpoints by hand: of stores whose journals stand byte by byte in `store_model`.
use Rattle.std.specs.Prelude.{ℕ, List, [], ◌∷◌, ◌++◌, codes, replicate}
use Rattle.disk_model.specs.Story.{Image}
use Rattle.store_model.specs.declared.record.Kind.TheVariants.{Source, Replica}
use Rattle.store_model.specs.sql_reach.catalog_rules.Bases.{empty_base}
use Rattle.store_model.specs.Held.{Held}
use Rattle.store_model.specs.Worked.{image_of, log_started, new_source, one_row, replica_at, replica_with_row, source_at, source_with_row, with_rows}
use Rattle.checkpoint_model.specs.Pieces.{checkpointed}

-- a source that has nothing but its first log, of 123 bytes, in the journal of generation 0
abbrev pub new_image : Image
new_image = image_of [] [] new_source (replicate 123 0)

abbrev pub new_held : Held
new_held = source_at empty_base 0 123

-- after one checkpoint, and after two
abbrev pub once : Image
once = checkpointed Source 0 new_held new_image

abbrev pub twice : Image
twice = checkpointed Source 1 new_held once

-- the same with other bytes in the file of the first snapshot, behind a closed gate
abbrev pub over_others : Image
over_others = checkpointed Source 0 new_held (image_of [] (0 ∷ replicate 50 9) new_source (replicate 123 0))

-- the first journal, with its first gate closed
abbrev pub closed_source : List ℕ
closed_source = 0 ∷ (log_started ++ 0 ∷ [])

-- ---- a table with a row

-- its canonical text, of 70 bytes
abbrev pub canonical_text : List ℕ
canonical_text = codes "CREATE TABLE `t` (`id` INT NOT NULL, `v` INT NULL, PRIMARY KEY (`id`))"

-- 143 bytes: an open gate, a body of 134; the node, generation 1, transaction 2; one log that ends at 336, or the place 1:336; one object,
-- 70 bytes of text; one row of two values, 1 and 10
abbrev pub snapshot_with_row : (node : ℕ) → List ℕ
snapshot_with_row node =
    1 ∷ 0x86 ∷ 0 ∷ 0 ∷ 0 ∷ 0 ∷ 0 ∷ 0 ∷ 0
    ∷ node ∷ 1 ∷ 0 ∷ 0 ∷ 0 ∷ 0 ∷ 0 ∷ 0 ∷ 0 ∷ 2 ∷ 0 ∷ 0 ∷ 0 ∷ 0 ∷ 0 ∷ 0 ∷ 0 ∷ 1 ∷ 0 ∷ 0 ∷ 0 ∷ 0x50 ∷ 1 ∷ 0 ∷ 0
    ∷ 1 ∷ 0 ∷ 0 ∷ 0 ∷ 0x46 ∷ 0 ∷ 0 ∷ 0 ∷ 0 ∷ 0 ∷ 0 ∷ 0
    ∷ (canonical_text
    ++ 1 ∷ 0 ∷ 0 ∷ 0 ∷ 0 ∷ 0 ∷ 0 ∷ 0 ∷ 2 ∷ 1 ∷ 1 ∷ 0 ∷ 0 ∷ 0 ∷ 0 ∷ 0 ∷ 0 ∷ 0 ∷ 1 ∷ 0x0a ∷ 0 ∷ 0 ∷ 0 ∷ 0 ∷ 0 ∷ 0 ∷ 0 ∷ [])

abbrev pub source_once : Image
source_once = checkpointed Source 0 (source_at (with_rows (one_row 10)) 2 336) (image_of [] [] (source_with_row 10) (replicate 336 0))

abbrev pub replica_once : Image
replica_once = checkpointed Replica 0 (replica_at (with_rows (one_row 10)) 2 1 336) (image_of [] [] replica_with_row [])
