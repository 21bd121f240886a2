-- Neighbouring changes of one kind of one table, as many as one event has.
use Rattle.std.specs.Prelude.{◌≡◌, ℕ, Bool, ◌+◌, ◌==◌, ◌&&◌, nat_le, min, ◌^◌, ◌-◌, if◌then◌else◌, List, [], ◌∷◌, ◌++◌, flat_map, length, map}
use Rattle.val_types.specs.declared.change.Change.{Change}
use Rattle.val_types.specs.Changes.{table_of}
use Rattle.val_types.specs.declared.definitions.ColType.{ColType}
use Rattle.val_types.specs.declared.definitions.ColumnDef.{ColumnDef}
use Rattle.val_types.specs.declared.definitions.TableDef.{TableDef}
use Rattle.event_codec.specs.declared.event.RowsKind.{RowsKind}
use Rattle.event_codec.specs.Event.{rows, Rows}
use Rattle.event_codec.specs.Writing.{rows_kind}
use Rattle.log_model.specs.Images.{change_bytes}
use Rattle.row_image.specs.Walk.{HasRows}
use Rattle.log_model.specs.Items.{Piece, same_name, kind_of, rows_kind_of, pieces_of, columns_in, types_in, id_from, all_rows, at_time, CanCarryAll}
use Rattle.log_model.specs.Written.{Stamped}

-- ---- by the types of the first change's columns and the number of its bytes

-- whether a change goes on with rows of so many bytes
abbrev pub goes_with : (types : List ColType) (first : Change) (size : ℕ) → Change → Bool
goes_with types first size c =
    rows_kind (rows_kind_of first) == rows_kind (rows_kind_of c) && same_name (table_of first) (table_of c)
    && nat_le (size + length (change_bytes types c)) 8192

-- how many bytes rows have with all changes that go on with them, and the changes that are left
abbrev pub run_from : (types : List ColType) (first : Change) (size : ℕ) → List Change → ℕ × List Change
run_from types first size [] = (size, [])
run_from types first size (c ∷ cs) =
    if goes_with types first size c then run_from types first (size + length (change_bytes types c)) cs else (size, c ∷ cs)

-- ---- what it is

-- the piece of changes of one kind and table
abbrev pub piece : List TableDef → (first : Change) (more : List Change) → Piece
piece defs first more = record {
  kind = rows_kind_of first;
  name = table_of first;
  rows = flat_map (change_bytes (types_in defs (table_of first))) (first ∷ more);
}

-- the rows of changes are rows of columns with these types
abbrev pub HaveRows : List ColType → List Change → Type 0
HaveRows types [] = Unit {0}
HaveRows types (c ∷ cs) = HasRows types c × HaveRows types cs

-- changes that go on with a first one, the others, and how many bytes the rows of the piece have, at most the greatest number of 64 bits
pub record IsRun (defs : List TableDef) (first : Change) (all more rest : List Change) (size : ℕ) : Type 0 where
  pub whole : all ≡ more ++ rest
  pub pieces : pieces_of defs (first ∷ all) ≡ piece defs first more ∷ pieces_of defs rest
  pub bytes : size ≡ min (length (piece defs first more).rows) (2 ^ 64 - 1)
  pub rows : CanCarryAll defs (first ∷ all) → HaveRows (types_in defs (table_of first)) (first ∷ more) × CanCarryAll defs rest

-- the rows event of a run of changes of a table with these columns and an id; it ends its item where no change is left
abbrev pub run_rows : List ColumnDef → (id : ℕ) (first : Change) (more rest : List Change) → Rows
run_rows columns id first more rest = record {
  kind = rows_kind_of first;
  id = id;
  ends = length rest == 0;
  columns = length columns;
  rows = flat_map (change_bytes (map kind_of columns)) (first ∷ more);
}

-- the same by the definitions of tables and their names
abbrev pub run_event : List TableDef → (names : List (List ℕ)) (first : Change) (more rest : List Change) → Rows
run_event defs names first more rest = run_rows (columns_in defs (table_of first)) (id_from 1 names (table_of first)) first more rest

-- the rows events of changes
abbrev pub rows_events : List TableDef → (names : List (List ℕ)) → List Change → (stamp : ℕ) → List Stamped
rows_events defs names cs stamp = at_time stamp (map rows (all_rows defs names (pieces_of defs cs)))
