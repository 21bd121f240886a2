-- A small script, whose committed statements run again.
use Rattle.std.specs.Prelude.{ℕ, ◌+◌, List, [], ◌∷◌, ◌++◌, map, Option}
use Rattle.std.specs.Option.{option_map}
use Rattle.val_types.specs.declared.value.Value.{Value}
use Rattle.table_rules.specs.Tables.{Table}
use Rattle.name_const_laws.specs.catalog_rules.Bases.{Base, empty_base}
use Rattle.name_const_laws.specs.log_entries.declared.entries.Entry.{Entry}
use Rattle.session_model.specs.Sessions.{State}
use Rattle.session_model.specs.Machine.{Whole, whole, first_place, first_state, step, Step}
use Rattle.session_model.specs.Worked.{root, draw_of, Spoken}
use Rattle.session_replays.specs.Rerun.{after_again}

abbrev pub history_behind : (State Whole → List (Entry Whole)) → Step Whole → List (Entry Whole)
history_behind more s = s.committed ++ more s.state

-- the entries that commands put out, from a state on, where so many draws were taken
abbrev pub history_from : ℕ → List Spoken → State Whole → List (Entry Whole)
history_from i [] state = []
history_from i (c ∷ cs) state = history_behind (history_from (i + 1) cs) (step whole root state c.0 c.1 (draw_of i))

-- those of a script on an empty source
abbrev pub history_of : List Spoken → List (Entry Whole)
history_of commands = history_from 0 commands (first_state empty_base [] 0 first_place)

-- the rows of each table where a script's committed statements run again
abbrev pub rows_again : List Spoken → Option (List (List (List Value)))
rows_again commands = option_map (λ (base : Base). map (λ (t : Table). t.rows) base.tables) (after_again (history_of commands) empty_base)
