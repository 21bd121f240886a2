-- What is given without a sort or a walk.
use Rattle.std.specs.Prelude.{◌≡◌, Bool, true, if◌then◌else◌, List, [], ◌∷◌, reverse, take, Option, Some, None, Result, Ok, Err}
use Rattle.std.specs.List.{list_all}
use Rattle.val_types.specs.declared.value.Value.{Value}
use Rattle.val_types.specs.declared.definitions.TableDef.{TableDef}
use Rattle.val_types.specs.Fitting.{row_fits}
use Rattle.table_rules.specs.Tables.{Table, rise}
use Rattle.sql_locals.specs.declared.locals.Local.{Local}
use Rattle.sql_tree.specs.declared.expressions.Limit.{Limit}
use Rattle.where_candidates.specs.declared.seeing.SeenTable.{SeenTable}
use Rattle.sql_tree.specs.Tree.{Orders, Selected, Origin, query}
use Rattle.where_candidates.specs.session_ctx.sql_meaning.Scenes.{Scene, ◌>>=◌, pure, done, each}
use Rattle.where_candidates.specs.session_ctx.sql_meaning.Frames.{World, Frame, sees, limited}
use Rattle.where_candidates.specs.session_ctx.sql_meaning.Values.{order_values, sorted, directions, shown_rows, rows_of_query}
use Rattle.where_candidates.specs.where_keys.declared.outside.Outside.{Outside}
use Rattle.where_candidates.specs.where_keys.Sides.{IsRound}

-- Rows that fit and rise by their primary key are these in the order of ORDER BY, and finding it changes nothing; else they are given back.
abbrev pub OrderedByKey : Outside → TableDef → Orders → List (List Value) → Result (List (List Value)) (List (List Value)) → Type 0
OrderedByKey outside d os rows (Ok ordered) =
    (world : World) (frame : Frame) (scene : Scene) → IsRound outside world frame → list_all (row_fits d.columns) rows ≡ true → rise d rows ≡ true
    → (each (λ row. order_values world (sees d row frame) os >>= λ by. pure (by, row)) rows >>= λ keyed. pure (sorted (directions os) keyed)) scene ≡ done ordered scene
OrderedByKey outside d os rows (Err same) = same ≡ rows

-- a row that is all that a SELECT shows, and it changes nothing, in each scene of some tables
abbrev pub IsWholeAnswer : {E : Type 0} → Outside → Selected → Origin → List Table → Result (Option (List Value)) E → Type 0
IsWholeAnswer outside what source tables (Ok (Some row)) =
    (world : World) (frame : Frame) (scene : Scene) → IsRound outside world frame → scene.tables ≡ tables
    → rows_of_query world frame (query what source) scene ≡ done (row ∷ []) scene
IsWholeAnswer outside what source tables (Ok None) = Unit {0}
IsWholeAnswer outside what source tables (Err short) = Unit {0}

-- LIMIT that leaves just the first
abbrev pub LeavesOne : Option Limit → Type 0
LeavesOne limit = (locals : List Local) (rows : List (List Value)) → limited locals limit rows ≡ take 1 rows

-- whether ORDER BY turns rows that fit and rise by their primary key, or leaves them as they stand, and finding it changes nothing
abbrev pub IsWay : Outside → TableDef → Orders → Option Bool → Type 0
IsWay outside d os (Some down) =
    (rows : List (List Value)) (world : World) (frame : Frame) (scene : Scene) → IsRound outside world frame → list_all (row_fits d.columns) rows ≡ true → rise d rows ≡ true
    → (each (λ row. order_values world (sees d row frame) os >>= λ by. pure (by, row)) rows >>= λ keyed. pure (sorted (directions os) keyed)) scene
    ≡ done (if down then reverse rows else rows) scene
IsWay outside d os None = Unit {0}

-- a table with all rows that are left of it for a SELECT to show, and finding them changes nothing, in each scene of some tables
abbrev pub IsEdge : {E : Type 0} → Outside → Origin → List Table → Result (Option SeenTable) E → Type 0
IsEdge outside source tables (Ok (Some seen)) =
    (world : World) (frame : Frame) (scene : Scene) (what : Selected) → IsRound outside world frame → scene.tables ≡ tables
    → rows_of_query world frame (query what source) scene ≡ shown_rows world frame seen.definition what seen.rows scene
IsEdge outside source tables (Ok None) = Unit {0}
IsEdge outside source tables (Err short) = Unit {0}
