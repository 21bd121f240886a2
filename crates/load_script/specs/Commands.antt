-- The made script, by its number of changes: the commands that `load` carries out.
use Rattle.std.specs.Prelude.{ℕ, ◌%◌, ◌==◌, zero, suc, if◌then◌else◌, List, [], ◌∷◌, ◌++◌, codes}
use Rattle.script_read.specs.Commands.{What, of_session, fetch, apply, replica_select}
use Rattle.load_script.specs.Script.{change_text, create_text}

-- behind each hundredth change the replica fetches and applies
abbrev pub steps : List What
steps = fetch 1000000 ∷ apply 1000 ∷ []

-- the commands of the i-th change
abbrev pub turn : ℕ → List What
turn i = of_session 1 (change_text i) ∷ (if i % 100 == 0 then steps else [])

-- those of the first changes
abbrev pub turns : ℕ → List What
turns zero = []
turns (suc i) = turns i ++ turn (suc i)

-- at the end the replica fetches and applies all, and counts its rows
abbrev pub lasts : List What
lasts = fetch 1000000000 ∷ apply 4294967295 ∷ replica_select (codes "SELECT COUNT(*) FROM g") ∷ []

-- the script
abbrev pub load_commands : ℕ → List What
load_commands n = of_session 1 create_text ∷ turns n ++ lasts
