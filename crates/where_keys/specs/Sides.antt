-- The sides of comparisons that the code knows, and what the code's values stand for.
use Rattle.std.specs.Prelude.{◌≡◌, ℕ, Bool, if◌then◌else◌, List, nat_eq, Option, Some, None}
use Rattle.std.specs.Map.{lookup}
use Rattle.std.specs.Option.{option_map, option_and_then}
use Rattle.std.specs.Cmp.Lexicographic.{pointwise}
use Rattle.val_types.specs.declared.value.Value.{Value}
use Rattle.val_types.specs.declared.definitions.TableDef.{TableDef}
use Rattle.sql_tree.specs.Tree.{Tree, literal, name, column, new_column, old_column, user_variable, name_const}
use Rattle.sql_locals.specs.declared.locals.Local.{Local}
use Rattle.sql_locals.specs.Locals.{find_local}
use Rattle.session_ctx.specs.sql_meaning.catalog_rules.Names.{same_name, place_among}
use Rattle.session_ctx.specs.sql_meaning.catalog_rules.Objects.{columns_of}
use Rattle.session_ctx.specs.sql_meaning.Frames.{World, Frame, View, column_if}
use Rattle.where_laws.specs.Sides.{Side, of_column, standing, stands, short, column_side, Kind, nothing_else, a_number, a_text, kind_of, do_compare}
use Rattle.where_keys.specs.declared.outside.RowOf.{RowOf}
use Rattle.where_keys.specs.declared.outside.Outside.{Outside}
use Rattle.where_keys.specs.declared.sides.Side.{Side as Known}
use Rattle.where_keys.specs.declared.sides.Side.TheVariants as sides
use Rattle.where_keys.specs.declared.sides.Kind.{Kind as Known-Kind}
use Rattle.where_keys.specs.declared.sides.Kind.TheVariants as kinds

-- ---- what the code's values stand for

abbrev pub row_view : RowOf → View
row_view r = record { definition = r.definition.now; row = r.row.now }

abbrev pub row_if : Option RowOf → Option View
row_if r = option_map row_view r

abbrev pub side_view : Known → Side
side_view (sides.Column place c) = of_column place c.now
side_view (sides.Standing v) = standing v.now

abbrev pub kind_view : Known-Kind → Kind
kind_view kinds.NothingElse = nothing_else
kind_view kinds.Number = a_number
kind_view kinds.Text = a_text

-- that a world and a frame have just this outside of a table
pub record IsRound (outside : Outside) (world : World) (frame : Frame) : Type 0 where
  pub context : world.setting.context ≡ outside.context.now
  pub locals : frame.locals ≡ outside.locals.now
  pub new_row : frame.new_row ≡ row_if outside.new_row
  pub old_row : frame.old_row ≡ row_if outside.old_row

-- ---- sides

-- a name that may be that of a local, else of a column of the table
abbrev pub local_or_column : TableDef → List ℕ → Option Local → Option Side
local_or_column definition n None = column_side definition (place_among (columns_of definition) n)
local_or_column definition n (Some l) = Some (standing l.value)

abbrev pub name_side_in : Outside → TableDef → List ℕ → Option Side
name_side_in outside definition n = local_or_column definition n (find_local outside.locals.now n)

-- a user variable that was set
abbrev pub variable_side : List (List ℕ × Value) → List ℕ → Option Side
variable_side variables n = option_and_then (λ (v : Value). stands (short v)) (lookup (pointwise nat_eq n) variables)

-- What an expression is in a WHERE over a table, None where that is not known from what is outside: rows in view outside are not looked at.
abbrev pub side_in : Outside → TableDef → Tree → Option Side
side_in outside definition (literal v) = stands (short v)
side_in outside definition (name_const n v) = stands (short v)
side_in outside definition (user_variable n) = variable_side outside.context.now.variables n
side_in outside definition (name n) = name_side_in outside definition n
side_in outside definition (column t c) = if same_name t definition.name then column_side definition (place_among (columns_of definition) c) else None
side_in outside definition (new_column c) = stands (column_if c (row_if outside.new_row))
side_in outside definition (old_column c) = stands (column_if c (row_if outside.old_row))
side_in outside definition t = None

-- whether two sides compare
abbrev pub sides_compare : Side → Side → Bool
sides_compare a b = do_compare (kind_of a) (kind_of b)
