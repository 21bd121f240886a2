-- Sides of a comparison that are known before a row is looked at: a column of the table, or a value that is the same whatever the row.
use Rattle.std.specs.Prelude.{◌≡◌, ℕ, Bool, true, false, if◌then◌else◌, List, Option, Some, None, Result, Ok, Err, slice_get, slice_index_or}
use Rattle.std.specs.Option.{option_map, option_and_then}
use Rattle.std.specs.Result.{is_ok}
use Rattle.val_types.specs.declared.value.Value.{Value}
use Rattle.val_types.specs.declared.value.Value.TheVariants.{Null, Int, Text}
use Rattle.val_types.specs.declared.definitions.ColType.{ColType}
use Rattle.val_types.specs.declared.definitions.ColType.TheVariants.{Int as IntType, BigInt, Varchar}
use Rattle.val_types.specs.declared.definitions.ColumnDef.{ColumnDef}
use Rattle.val_types.specs.declared.definitions.TableDef.{TableDef}
use Rattle.val_types.specs.Fitting.{row_fits}
use Rattle.value_rules.specs.Operators.{unary_value}
use Rattle.value_rules.specs.Functions.{text_value}
use Rattle.sql_tree.specs.Tree.{Tree, literal, name, column, new_column, old_column, user_variable, unary, values_of, name_const}
use Rattle.sql_locals.specs.Locals.{find_local}
use Rattle.sql_meaning.specs.catalog_rules.Names.{same_name, place_among}
use Rattle.sql_meaning.specs.catalog_rules.Objects.{columns_of}
use Rattle.sql_meaning.specs.log_entries.Variables.{variable_value}
use Rattle.sql_meaning.specs.Scenes.{Scene, done}
use Rattle.sql_meaning.specs.Frames.{World, Frame, sees, column_if, column_in_view, qualified_value}
use Rattle.sql_meaning.specs.Values.{value}

-- A side of a comparison: the column at a place, or a value that stands whatever the row.
pub data Side : Type 0 where
  of_column : ℕ → ColumnDef → Side
  standing : Value → Side

-- what it is on a row
abbrev pub side_value : Side → List Value → Value
side_value (of_column place c) row = slice_index_or row place Null
side_value (standing v) row = v

-- a value that may be there, as a side
abbrev pub stands : Option Value → Option Side
stands v = option_map standing v

-- a value where it is one that an expression can give: no text of more than 65,535 bytes
abbrev pub short_text : List ℕ → Option Value
short_text t = if is_ok (text_value t) then Some (Text t) else None

abbrev pub short : Value → Option Value
short Null = Some Null
short (Int n) = Some (Int n)
short (Text t) = short_text t

-- a value where a rule gives one
abbrev pub if_given : Result Value ℕ → Option Value
if_given (Ok v) = Some v
if_given (Err code) = None

-- the column at a place that may be known
abbrev pub column_side : TableDef → Option ℕ → Option Side
column_side definition place = option_and_then (λ (p : ℕ). option_map (of_column p) (slice_get definition.columns p)) place

-- a name that is no local: a column of this table, else of a row in view outside
abbrev pub name_side : Frame → TableDef → List ℕ → Option ℕ → Option Side
name_side frame definition n None = stands (column_in_view n frame.views)
name_side frame definition n (Some place) = column_side definition (Some place)

-- `-` before a value
abbrev pub operated : Option Side → (Value → Result Value ℕ) → Option Side
operated None of_value = None
operated (Some (of_column place c)) of_value = None
operated (Some (standing v)) of_value = stands (if_given (of_value v))

-- What an expression is in a WHERE over a table, None where that is not known before. Locals hide columns, and columns of the table
-- those of rows in view outside.
abbrev pub side_of : World → Frame → TableDef → Tree → Option Side
side_of world frame definition (literal v) = stands (short v)
side_of world frame definition (name_const n v) = stands (short v)
side_of world frame definition (user_variable n) = stands (short (variable_value world.setting.context.variables n))
side_of world frame definition (name n) =
    elim (find_local frame.locals n) [
      | None ↦ name_side frame definition n (place_among (columns_of definition) n)
      | Some l ↦ Some (standing l.value)
    ]
side_of world frame definition (column t c) =
    if same_name t definition.name then column_side definition (place_among (columns_of definition) c) else stands (qualified_value frame t c)
side_of world frame definition (new_column c) = stands (column_if c frame.new_row)
side_of world frame definition (old_column c) = stands (column_if c frame.old_row)
side_of world frame definition (values_of c) = stands (column_if c frame.inserted)
side_of world frame definition (unary op a) = operated (side_of world frame definition a) (unary_value op)
side_of world frame definition t = None

-- ---- kinds

-- What a side may be besides NULL.
pub data Kind : Type 0 where
  nothing_else : Kind
  a_number : Kind
  a_text : Kind

abbrev pub kind_of_value : Value → Kind
kind_of_value Null = nothing_else
kind_of_value (Int n) = a_number
kind_of_value (Text t) = a_text

abbrev pub kind_of_type : ColType → Kind
kind_of_type IntType = a_number
kind_of_type BigInt = a_number
kind_of_type (Varchar most) = a_text

abbrev pub kind_of : Side → Kind
kind_of (of_column place c) = kind_of_type c.kind
kind_of (standing v) = kind_of_value v

-- whether values of two kinds compare; a number and a text do not
abbrev pub do_compare : Kind → Kind → Bool
do_compare nothing_else l = true
do_compare a_number nothing_else = true
do_compare a_number a_number = true
do_compare a_number a_text = false
do_compare a_text nothing_else = true
do_compare a_text a_number = false
do_compare a_text a_text = true

-- whether values of a kind are conditions; a text is none
abbrev pub is_condition : Kind → Bool
is_condition nothing_else = true
is_condition a_number = true
is_condition a_text = false

-- a side is what it is said to be on each row that fits, and changes nothing
abbrev pub SidesAreSo : Type 0
SidesAreSo =
    (world : World) (frame : Frame) (definition : TableDef) (t : Tree) (side : Side) → side_of world frame definition t ≡ Some side
    → (row : List Value) (scene : Scene) → row_fits definition.columns row ≡ true → value world (sees definition row frame) t scene ≡ done (side_value side row) scene
