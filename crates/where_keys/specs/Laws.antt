-- What it means for a WHERE that a condition names a key.
use Rattle.std.specs.Prelude.{◌≡◌, ℕ, List, Some, option_to_list, slice_get}
use Rattle.val_types.specs.declared.value.Value.{Value}
use Rattle.val_types.specs.declared.definitions.KeyDef.{KeyDef}
use Rattle.val_types.specs.declared.definitions.TableDef.{TableDef}
use Rattle.table_rules.specs.Tables.{IsKept}
use Rattle.table_rules.specs.Stored.{row_of_key, row_of_values}
use Rattle.sql_tree.specs.Tree.{Tree, part}
use Rattle.session_ctx.specs.sql_meaning.Scenes.{Scene, kept_by}
use Rattle.session_ctx.specs.sql_meaning.Frames.{World, Frame}
use Rattle.where_laws.specs.Laws.{kept_where}
use Rattle.where_keys.specs.declared.outside.Outside.{Outside}
use Rattle.where_keys.specs.Sides.{IsRound}
use Rattle.where_keys.specs.Keys.{key_in}

-- A WHERE over a table keeps the same rows, with the same scene or error behind it, where only the row of a key is looked at, if there
-- is one: whatever else is round it, and whatever rows the table has.
pub record IsEnough (outside : Outside) (d : TableDef) (t : Tree) (key : List Value) : Type 0 where
  pub gives :
      (world : World) (frame : Frame) → IsRound outside world frame → (rows : List (List Value)) → IsKept (record { definition = d; rows = rows }) → (scene : Scene)
      → kept_by (kept_where world frame d (part t)) rows scene ≡ kept_by (kept_where world frame d (part t)) (option_to_list (row_of_key d key rows)) scene

-- so it is with the primary key that a condition names
abbrev pub NamedKeysAreEnough : Type 0
NamedKeysAreEnough = (outside : Outside) (d : TableDef) (t : Tree) (key : List Value) → key_in outside d t d.primary ≡ Some key → IsEnough outside d t key

-- So it does where only the row of some values of a unique key is looked at, if there is one.
pub record IsEnoughOf (outside : Outside) (d : TableDef) (t : Tree) (key : KeyDef) (values : List Value) : Type 0 where
  pub gives :
      (world : World) (frame : Frame) → IsRound outside world frame → (rows : List (List Value)) → IsKept (record { definition = d; rows = rows }) → (scene : Scene)
      → kept_by (kept_where world frame d (part t)) rows scene ≡ kept_by (kept_where world frame d (part t)) (option_to_list (row_of_values key values rows)) scene

-- so it is with the values that a condition names for each column of a unique key
abbrev pub NamedUniqueKeysAreEnough : Type 0
NamedUniqueKeysAreEnough =
    (outside : Outside) (d : TableDef) (t : Tree) (place : ℕ) (key : KeyDef) (values : List Value)
    → slice_get d.uniques place ≡ Some key → key_in outside d t key.columns ≡ Some values → IsEnoughOf outside d t key values
