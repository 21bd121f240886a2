-- What it means for a WHERE that a condition says a range of the primary key.
use Rattle.std.specs.Prelude.{◌≡◌, List, filter}
use Rattle.val_types.specs.declared.value.Value.{Value}
use Rattle.val_types.specs.declared.definitions.TableDef.{TableDef}
use Rattle.table_rules.specs.Tables.{IsKept}
use Rattle.sql_tree.specs.Tree.{Tree, part}
use Rattle.value_ranges.specs.Ranges.{Range}
use Rattle.value_ranges.specs.Keys.{row_is_in}
use Rattle.where_keys.specs.sql_meaning.Scenes.{Scene, kept_by}
use Rattle.where_keys.specs.sql_meaning.Frames.{World, Frame}
use Rattle.where_keys.specs.where_laws.Laws.{kept_where}
use Rattle.where_keys.specs.declared.outside.Outside.{Outside}
use Rattle.where_keys.specs.Sides.{IsRound}
use Rattle.where_ranges.specs.Saying.{key_range}

-- A WHERE over a table keeps the same rows, with the same scene or error behind it, where only the rows in a range are looked at, in their
-- order: whatever else is round it, and whatever rows the table has.
pub record IsEnoughWithin (outside : Outside) (d : TableDef) (t : Tree) (range : Range) : Type 0 where
  pub gives :
      (world : World) (frame : Frame) → IsRound outside world frame → (rows : List (List Value)) → IsKept (record { definition = d; rows = rows }) → (scene : Scene)
      → kept_by (kept_where world frame d (part t)) rows scene ≡ kept_by (kept_where world frame d (part t)) (filter (row_is_in d range) rows) scene

-- so it is with the range that a condition says of the first column of the primary key
abbrev pub NamedRangesAreEnough : Type 0
NamedRangesAreEnough = (outside : Outside) (d : TableDef) (t : Tree) → IsEnoughWithin outside d t (key_range outside d t)
