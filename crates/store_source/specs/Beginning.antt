-- How a source begins its first log.
use Rattle.std.specs.Prelude.{ℕ, List, [], ◌∷◌}
use Rattle.session_model.specs.log_entries.declared.entries.Entry.{Entry}
use Rattle.session_model.specs.log_entries.declared.entries.Entry.TheVariants.{LogStart}
use Rattle.session_model.specs.Machine.{Whole}
use Rattle.store_model.specs.Held.{LogEnd}

-- the entry with which an opening begins: the start of the first log, where there is none
abbrev pub begun_with : List LogEnd → (stamp server : ℕ) → List (Entry Whole)
begun_with [] stamp server = LogStart stamp server ∷ []
begun_with (e ∷ ends) stamp server = []

-- how many calls of the disk it takes
abbrev pub calls_begun : List ℕ → ℕ
calls_begun [] = 6
calls_begun (e ∷ ends) = 0
