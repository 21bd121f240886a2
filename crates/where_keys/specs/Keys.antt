-- What a condition says of a primary key before a row is looked at.
use Rattle.std.specs.Prelude.{ℕ, Bool, true, false, not, ◌&&◌, ◌==◌, if◌then◌else◌, List, [], ◌∷◌, Option, Some, None, is_some}
use Rattle.std.specs.Option.{option_map, option_and_then}
use Rattle.val_types.specs.declared.value.Value.{Value}
use Rattle.val_types.specs.declared.definitions.ColumnDef.{ColumnDef}
use Rattle.val_types.specs.declared.definitions.TableDef.{TableDef}
use Rattle.val_types.specs.declared.ops.BinOp.{BinOp}
use Rattle.val_types.specs.declared.ops.BinOp.TheVariants.{Or, And, Equal, NullSafeEqual}
use Rattle.val_types.specs.declared.ops.UnOp.{UnOp}
use Rattle.val_types.specs.declared.ops.UnOp.TheVariants.{Negate, Not, IsNull, IsNotNull}
use Rattle.val_types.specs.Fitting.{is_null}
use Rattle.sql_tree.specs.Tree.{Tree, unary, binary}
use Rattle.where_laws.specs.Facts.{way_of}
use Rattle.where_laws.specs.Sides.{Side, of_column, standing, kind_of, is_condition}
use Rattle.where_keys.specs.declared.outside.Outside.{Outside}
use Rattle.where_keys.specs.declared.keys.Look.{Look as Known-Look}
use Rattle.where_keys.specs.declared.keys.Look.TheVariants as looks
use Rattle.where_keys.specs.Sides.{side_in, sides_compare}

-- ---- conditions that change nothing

-- two sides that are known, and compare
abbrev pub are_compared : Option Side → Option Side → Bool
are_compared None b = false
are_compared (Some a) None = false
are_compared (Some a) (Some b) = sides_compare a b

-- a side that is known, and is a condition alone
abbrev pub is_plain : Option Side → Bool
is_plain None = false
is_plain (Some side) = is_condition (kind_of side)

-- an operator between conditions that change nothing, or between sides
abbrev pub operator_quiet : BinOp → Bool → Bool → Bool → Bool
operator_quiet And a b compared = a && b
operator_quiet Or a b compared = a && b
operator_quiet op a b compared = is_some (way_of op) && compared

abbrev pub unary_quiet : UnOp → Bool → Bool → Bool
unary_quiet Negate a known = false
unary_quiet Not a known = a
unary_quiet IsNull a known = known
unary_quiet IsNotNull a known = known

-- whether a condition is true, false or unknown on each row, and changes nothing
abbrev pub quiet_in : Outside → TableDef → Tree → Bool
quiet_in outside d (binary op a b) = operator_quiet op (quiet_in outside d a) (quiet_in outside d b) (are_compared (side_in outside d a) (side_in outside d b))
quiet_in outside d (unary op a) = unary_quiet op (quiet_in outside d a) (is_some (side_in outside d a))
quiet_in outside d t = is_plain (side_in outside d t)

-- ---- the value of a column

-- What a condition says of a column: its value; or nothing, and what stands behind may be looked at, or may not.
pub data Look : Type 0 where
  found : Value → Look
  calm : Look
  stopped : Look

abbrev pub look_view : Known-Look → Look
look_view (looks.Found v) = found v.now
look_view looks.Calm = calm
look_view looks.Stopped = stopped

abbrev pub calm_if : Bool → Look
calm_if true = calm
calm_if false = stopped

-- AND: what stands behind one that may do more is not looked at
abbrev pub followed : Look → Look → Look
followed (found v) behind = found v
followed calm behind = behind
followed stopped behind = stopped

-- a column that is never NULL beside a value that is not
abbrev pub column_look : ℕ → ℕ → ColumnDef → Value → Look
column_look place at c v = if at == place && not c.nullable && not (is_null v) then found v else calm

-- two sides that compare
abbrev pub equal_look : ℕ → Side → Side → Look
equal_look place (of_column at c) (of_column other d) = calm
equal_look place (of_column at c) (standing v) = column_look place at c v
equal_look place (standing v) (of_column at c) = column_look place at c v
equal_look place (standing v) (standing w) = calm

-- two sides, where both are known
abbrev pub sides_look : ℕ → Option Side → Option Side → Look
sides_look place None b = stopped
sides_look place (Some a) None = stopped
sides_look place (Some a) (Some b) = if sides_compare a b then equal_look place a b else stopped

-- an operator, by what is said of both operands as conditions, as sides, and whether all changes nothing
abbrev pub operator_look : BinOp → Look → Look → Look → Bool → Look
operator_look And a b sides quiet = followed a b
operator_look Equal a b sides quiet = sides
operator_look NullSafeEqual a b sides quiet = sides
operator_look op a b sides quiet = calm_if quiet

-- what a condition says of the column at a place
abbrev pub look_in : Outside → TableDef → ℕ → Tree → Look
look_in outside d place (binary op a b) =
    operator_look op (look_in outside d place a) (look_in outside d place b) (sides_look place (side_in outside d a) (side_in outside d b)) (quiet_in outside d (binary op a b))
look_in outside d place t = calm_if (quiet_in outside d t)

-- ---- the values of a key

abbrev pub value_found : Look → Option Value
value_found (found v) = Some v
value_found calm = None
value_found stopped = None

-- the values that a condition says of some columns, None where it does not say each
abbrev pub key_in : Outside → TableDef → Tree → List ℕ → Option (List Value)
key_in outside d t [] = Some []
key_in outside d t (place ∷ places) =
    option_and_then (λ v. option_map (λ (vs : List Value). v ∷ vs) (key_in outside d t places)) (value_found (look_in outside d place t))
