-- What the code's values stand for, where a table stands, and what changing a row in some surroundings does.
use Rattle.std.specs.Prelude.{◌≡◌, ℕ, List, [], Option, Some, None, ℤ, slice_get, unwrap_or}
use Rattle.val_types.specs.declared.value.Value.{Value}
use Rattle.val_types.specs.declared.definitions.TableDef.{TableDef}
use Rattle.table_rules.specs.Stores.{place_of, definitions_of}
use Rattle.sql_tree.specs.Tree.{Tree}
use Rattle.sql_tree.specs.StatementView.{view_sets}
use Rattle.sql_tree.specs.declared.statements.Cause.{Cause}
use Rattle.sql_tree.specs.declared.statements.Cause.TheVariants as causes
use Rattle.sql_evaluation.specs.catalog_rules.Names.{place_among}
use Rattle.sql_evaluation.specs.catalog_rules.Objects.{columns_of}
use Rattle.sql_evaluation.specs.sql_meaning.Scenes.{Action, ◌>>=◌, pure, needed, carried_on}
use Rattle.sql_evaluation.specs.sql_meaning.Frames.{Frame}
use Rattle.sql_evaluation.specs.sql_meaning.Changing.{Manner, refusing, ignoring, replacing, updating, Inserting, delete_row, update_row, insert_row, updating_frame, put_at, before_row, after_row, assign_column, none_missing, store_update}
use Rattle.sql_evaluation.specs.exec_state.declared.stage.Stage.{Stage}
use Rattle.sql_evaluation.specs.declared.world.View.{View as Shown}
use Rattle.sql_evaluation.specs.declared.world.Around.{Around}
use Rattle.sql_evaluation.specs.Seen.{frame_of, world_of}
use Rattle.changed_rows.specs.declared.inserting.Manner.{Manner as Way}
use Rattle.changed_rows.specs.declared.inserting.Manner.TheVariants as ways
use Rattle.changed_rows.specs.declared.inserting.Inserting.{Inserting as SoFar}

-- ---- where a table stands

-- at a place stands the table with just this definition, and it is the first of its name
pub record Standing (at : ℕ) (definition : TableDef) (stage : Stage) : Type 0 where
  pub place : place_of definition.name stage.tables.tables ≡ Some at
  pub there : slice_get (definitions_of stage.tables.tables) at ≡ Some definition

unfoldable pub StandsAt : ℕ → TableDef → Stage → Type 0
StandsAt at definition stage = Standing at definition stage

-- ---- what the code's values stand for

-- what an INSERT or REPLACE does with a row whose key is there
abbrev pub manner_of : Way → Manner
manner_of ways.Refusing = refusing
manner_of ways.Ignoring = ignoring
manner_of ways.Replacing = replacing
manner_of (ways.Updating sets) = updating (view_sets sets.now)

-- what an INSERT has come to
abbrev pub inserting_of : SoFar → Inserting
inserting_of i = record { sequence = i.sequence; affected = i.affected; last_id = i.last_id }

-- ---- rows changed in what is round a statement

abbrev pub deleted_in : Around → TableDef → List Value → Action (Unit {0})
deleted_in a d row = delete_row (world_of a) d row

abbrev pub updated_in : Around → TableDef → List (List ℕ × Tree) → List Value → Action ℕ
updated_in a d sets old = update_row (world_of a) (frame_of a []) d sets old

abbrev pub inserted_in : Around → Option ℤ → TableDef → List ℕ → Manner → Inserting → List Value → Action Inserting
inserted_in a forced d places manner so_far vs = insert_row (world_of a) (frame_of a []) forced d places manner so_far vs

-- ---- evaluating behind ON DUPLICATE KEY UPDATE

-- what is seen there: the row that was to be inserted too
abbrev pub frame_behind : Around → Shown → List Shown → Frame
frame_behind a row vs = updating_frame (frame_of a vs) row.definition row.row

-- ---- parts of a change that the code takes one by one

-- the row that a BEFORE trigger leaves of one
abbrev pub left_in : Around → Cause → TableDef → List Value → Option (List Value) → Action (List Value)
left_in a event d row old = before_row (world_of a) event d (Some row) old >>= λ left. pure (unwrap_or left row)

-- a value put into the column of a name
abbrev pub put_named : TableDef → List Value → List ℕ → Value → Action (List Value)
put_named d row name v = needed 1054 (place_among (columns_of d) name) >>= λ place. put_at d row (place, v)

-- the assignments of an UPDATE, left to right
abbrev pub assigned_in : Around → TableDef → List (List ℕ × Tree) → List Value → Action (List Value)
assigned_in a d sets old = carried_on (assign_column (world_of a) (frame_of a []) d) old sets

-- what is left of them stored
abbrev pub stored_in : Around → TableDef → List Value → List Value → Action ℕ
stored_in a d old left =
    none_missing d left None >>= λ _. store_update d old left >>= λ count.
    after_row (world_of a) causes.Update d (Some left) (Some old) >>= λ _. pure count
