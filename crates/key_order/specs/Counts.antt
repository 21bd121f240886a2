-- COUNT(*) of rows.
use Rattle.std.specs.Prelude.{◌≡◌, List, [], ◌∷◌, length, pos}
use Rattle.val_types.specs.declared.value.Value.{Value}
use Rattle.val_types.specs.declared.value.Value.TheVariants.{Int}
use Rattle.val_types.specs.declared.definitions.TableDef.{TableDef}
use Rattle.sql_tree.specs.Tree.{aggregates, count_all, no_aggregate}
use Rattle.where_candidates.specs.session_ctx.sql_meaning.Scenes.{Scene, done}
use Rattle.where_candidates.specs.session_ctx.sql_meaning.Frames.{World, Frame}
use Rattle.where_candidates.specs.session_ctx.sql_meaning.Values.{shown_rows}

-- COUNT(*) alone shows how many rows there are, and changes nothing
abbrev pub CountsRows : Type 0
CountsRows =
    (world : World) (frame : Frame) (d : TableDef) (rows : List (List Value)) (scene : Scene)
    → shown_rows world frame d (aggregates (count_all no_aggregate)) rows scene ≡ done ((Int (pos (length rows)) ∷ []) ∷ []) scene
