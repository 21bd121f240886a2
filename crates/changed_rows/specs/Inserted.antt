-- What an INSERT of a row is in the code, and its parts, which the code takes one by one.
use Rattle.std.specs.Prelude.{◌≡◌, ℕ, Bool, List, [], zip, find, Option, Some, None, ℤ}
use Rattle.val_types.specs.declared.value.Value.{Value}
use Rattle.val_types.specs.declared.definitions.TableDef.{TableDef}
use Rattle.table_rules.specs.Stored.{row_in_way}
use Rattle.sql_evaluation.specs.sql_meaning.Scenes.{Scene, Action, done, ◌>>=◌, pure, carried_on, table_now}
use Rattle.sql_evaluation.specs.sql_meaning.Changing.{Manner, Inserting, Counted, put_at, left_out_row, none_missing, asked_place, count_row, put_row, place_row, delete_row}
use Rattle.sql_evaluation.specs.declared.world.View.{View as Shown}
use Rattle.sql_evaluation.specs.declared.world.Around.{Around}
use Rattle.sql_evaluation.specs.Seen.{frame_of, world_of}
use Rattle.changed_rows.specs.Changed.{frame_behind}
use Rattle.changed_rows.specs.declared.counting.Counted.{Counted as Numbered}

-- a row with its AUTO_INCREMENT value decided
abbrev pub counted_of : Numbered → Counted
counted_of c = record { row = c.row; sequence = c.sequence; generated = c.generated }

-- what an INSERT has come to, but for what it has generated
abbrev pub come_to : ℕ → Option ℤ → Inserting
come_to affected last_id = record { sequence = None; affected = affected; last_id = last_id }

-- the row of some values in the columns at some places, the others left out
abbrev pub filled_in : TableDef → List ℕ → List Value → Action (List Value)
filled_in d places vs = carried_on (put_at d) (left_out_row d) (zip places vs)

-- NOT NULL, the AUTO_INCREMENT value, and the row put in its place
abbrev pub entered_in : Around → Option ℤ → TableDef → Manner → Inserting → List Value → Action Inserting
entered_in a forced d manner so_far left =
    none_missing d left (asked_place d left) >>= λ _. count_row (world_of a) forced d left so_far.sequence >>= λ counted.
    place_row (world_of a) (frame_of a []) d manner counted so_far

-- the row put in, or what the manner says of the one in its way
abbrev pub placed_in : Around → TableDef → Manner → Counted → ℕ → Option ℤ → Action Inserting
placed_in a d manner counted affected last_id = place_row (world_of a) (frame_of a []) d manner counted (come_to affected last_id)

abbrev pub put_row_in : Around → TableDef → Counted → ℕ → Option ℤ → Action Inserting
put_row_in a d counted affected last_id = put_row (world_of a) d counted (come_to affected last_id)

-- the first row that passes a test
abbrev pub found_by : TableDef → (List Value → Bool) → Action (Option (List Value))
found_by d test = table_now d.name >>= λ table. pure (find test table.rows)

-- the first row that has the first key in the way of a row
abbrev pub way_of : TableDef → List Value → Action (Option (List Value))
way_of d row = table_now d.name >>= λ table. pure (row_in_way d row table.rows)

-- one is there
pub record InWay (d : TableDef) (row : List Value) (scene : Scene) : Type 0 where
  pub other : List Value
  pub there : way_of d row scene ≡ done (Some other) scene

-- the first row that passes a test deleted; how many these are
abbrev pub one_deleted : Around → TableDef → Option (List Value) → Action ℕ
one_deleted a d None = pure 0
one_deleted a d (Some row) = delete_row (world_of a) d row >>= λ _. pure 1

abbrev pub cleared_by : Around → TableDef → (List Value → Bool) → Action ℕ
cleared_by a d test = found_by d test >>= one_deleted a d

-- ---- behind ON DUPLICATE KEY UPDATE

-- surroundings that differ in the row that was to be inserted alone
pub record IsBehind (inner outer : Around) (row : Shown) : Type 0 where
  pub world : world_of inner ≡ world_of outer
  pub frame : (vs : List Shown) → frame_of inner vs ≡ frame_behind outer row vs
