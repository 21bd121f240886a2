-- Rows in the order of their primary key, and ORDER BY the columns of that key.
use Rattle.std.specs.Prelude.{◌≡◌, ℕ, Bool, true, not, List, [], ◌∷◌, length, map, reverse, Some}
use Rattle.std.specs.List.{list_all}
use Rattle.val_types.specs.declared.value.Value.{Value}
use Rattle.val_types.specs.declared.definitions.ColumnDef.{ColumnDef}
use Rattle.val_types.specs.declared.definitions.TableDef.{TableDef}
use Rattle.val_types.specs.Fitting.{row_fits}
use Rattle.val_types.specs.Keys.{primary_key}
use Rattle.table_rules.specs.Tables.{rise}
use Rattle.sql_tree.specs.Tree.{Tree, Orders, no_order, order_by}
use Rattle.where_candidates.specs.session_ctx.sql_meaning.Scenes.{Scene, ◌>>=◌, pure, done, each}
use Rattle.where_candidates.specs.session_ctx.sql_meaning.Frames.{World, Frame, sees}
use Rattle.where_candidates.specs.session_ctx.sql_meaning.Values.{order_values, sorted, directions}
use Rattle.where_candidates.specs.where_keys.where_laws.Sides.{of_column, side_of}

-- rows, each with its primary key as the values by which it is sorted
abbrev pub with_keys : TableDef → List (List Value) → List (List Value × List Value)
with_keys d rows = map (λ (row : List Value). (primary_key d row, row)) rows

-- whether all directions are rising, or all falling
abbrev pub are_rising : List Bool → Bool
are_rising downs = list_all not downs

abbrev pub are_falling : List Bool → Bool
are_falling downs = list_all (λ (down : Bool). down) downs

-- rows that rise by their primary key stay as they stand where they are sorted by it
abbrev pub RisingKeysStay : Type 0
RisingKeysStay =
    (d : TableDef) (downs : List Bool) (rows : List (List Value)) → are_rising downs ≡ true → length downs ≡ length d.primary → rise d rows ≡ true
    → sorted downs (with_keys d rows) ≡ rows

-- sorted by it the other way round they turn
abbrev pub FallingKeysTurn : Type 0
FallingKeysTurn =
    (d : TableDef) (downs : List Bool) (rows : List (List Value)) → are_falling downs ≡ true → length downs ≡ length d.primary → rise d rows ≡ true
    → sorted downs (with_keys d rows) ≡ reverse rows

-- that the items of ORDER BY are just some columns of the table, in this order
pub record IsColumn (world : World) (frame : Frame) (d : TableDef) (t : Tree) (place : ℕ) : Type 0 where
  pub column : ColumnDef
  pub is : side_of world frame d t ≡ Some (of_column place column)

abbrev pub AreColumns : World → Frame → TableDef → Orders → List ℕ → Type 0
AreColumns world frame d no_order [] = Unit {0}
AreColumns world frame d no_order (place ∷ places) = ⊥
AreColumns world frame d (order_by t down os) [] = ⊥
AreColumns world frame d (order_by t down os) (place ∷ places) = IsColumn world frame d t place × AreColumns world frame d os places

-- ORDER BY the columns of the primary key, all rising: rows that fit and rise, as those of a table do, as they stand
abbrev pub KeysOrderRows : Type 0
KeysOrderRows =
    (world : World) (frame : Frame) (d : TableDef) (os : Orders) (rows : List (List Value)) (scene : Scene) → AreColumns world frame d os d.primary → are_rising (directions os) ≡ true
    → list_all (row_fits d.columns) rows ≡ true → rise d rows ≡ true
    → (each (λ row. order_values world (sees d row frame) os >>= λ by. pure (by, row)) rows >>= λ keyed. pure (sorted (directions os) keyed)) scene ≡ done rows scene

-- the same, all falling: these rows the other way round
abbrev pub KeysTurnRows : Type 0
KeysTurnRows =
    (world : World) (frame : Frame) (d : TableDef) (os : Orders) (rows : List (List Value)) (scene : Scene) → AreColumns world frame d os d.primary → are_falling (directions os) ≡ true
    → list_all (row_fits d.columns) rows ≡ true → rise d rows ≡ true
    → (each (λ row. order_values world (sees d row frame) os >>= λ by. pure (by, row)) rows >>= λ keyed. pure (sorted (directions os) keyed)) scene ≡ done (reverse rows) scene
