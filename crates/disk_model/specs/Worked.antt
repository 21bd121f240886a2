-- Stories by hand, with file 8.
use Rattle.std.specs.Prelude.{◌==◌, if◌then◌else◌, true, List, [], ◌∷◌}
use Rattle.disk_model.specs.declared.call.Call.{Call}
use Rattle.disk_model.specs.declared.call.Call.TheVariants.{Write, Cut, Sync}
use Rattle.disk_model.specs.Story.{Image}

-- file 8 has six bytes
abbrev pub six_bytes : Image
six_bytes f = if f == 8 then 10 ∷ 11 ∷ 12 ∷ 13 ∷ 14 ∷ 15 ∷ [] else []

-- a write from 1 to 4, and one from 3 to 5
abbrev pub two_writes : List Call
two_writes = Write 8 3 (33 ∷ 34 ∷ []) true ∷ Write 8 1 (21 ∷ 22 ∷ 23 ∷ []) true ∷ []

-- the same with a sync between
abbrev pub one_synced : List Call
one_synced = Write 8 3 (33 ∷ 34 ∷ []) true ∷ Sync 8 true ∷ Write 8 1 (21 ∷ 22 ∷ 23 ∷ []) true ∷ []

-- cut to 2, then a byte more
abbrev pub cut_and_grown : List Call
cut_and_grown = Write 8 2 (40 ∷ []) true ∷ Cut 8 2 true ∷ []
