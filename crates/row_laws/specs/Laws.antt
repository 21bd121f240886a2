-- A law of items by their rows.
use Rattle.std.specs.Prelude.{◌≤◌, ◌<◌, ◌^◌, ℕ, ◌+◌, List, [], ◌∷◌, length}
use Rattle.val_types.specs.declared.change.Change.{Change}
use Rattle.val_types.specs.declared.definitions.TableDef.{TableDef}
use Rattle.row_events.specs.log_model.Items.{at_time, changes_item, CanCarryAll}
use Rattle.row_events.specs.log_model.Spelling.{bodies_of}
use Rattle.row_events.specs.log_model.Written.{total, CanWriteAll}

-- names of tables have at most 64 bytes
abbrev pub AreNamed : List TableDef → Type 0
AreNamed [] = Unit {0}
AreNamed (d ∷ ds) = (length d.name ≤ 64) × AreNamed ds

-- what changes are written as can be written, where the last event ends at a position of at most 1,200,000,000
abbrev pub RowsCanBeWritten : Type 0
RowsCanBeWritten = (defs : List TableDef) (cs : List Change) (stamp pos : ℕ) → AreNamed defs → CanCarryAll defs cs → stamp < 2 ^ 32
    → pos + total (at_time stamp (bodies_of (changes_item defs cs))) ≤ 1200000000
    → CanWriteAll pos (at_time stamp (bodies_of (changes_item defs cs)))
