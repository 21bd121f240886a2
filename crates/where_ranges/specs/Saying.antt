-- In which range a condition says that a column is before a row is looked at.
use Rattle.std.specs.Prelude.{ℕ, Bool, true, false, not, ◌&&◌, ◌==◌, if◌then◌else◌, Option, Some, None, is_some, slice_get}
use Rattle.std.specs.Option.{option_map, option_map_or}
use Rattle.val_types.specs.declared.value.Value.{Value}
use Rattle.val_types.specs.declared.definitions.ColumnDef.{ColumnDef}
use Rattle.val_types.specs.declared.definitions.TableDef.{TableDef}
use Rattle.val_types.specs.declared.ops.BinOp.{BinOp}
use Rattle.val_types.specs.declared.ops.BinOp.TheVariants.{And}
use Rattle.val_types.specs.Fitting.{is_null}
use Rattle.sql_tree.specs.Tree.{Tree, binary}
use Rattle.value_ranges.specs.Ranges.{Range, range_of, everything, met}
use Rattle.where_keys.specs.where_laws.Facts.{Way, equal, unequal, below, at_most, above, at_least, turned, way_of}
use Rattle.where_keys.specs.where_laws.Sides.{Side, of_column, standing}
use Rattle.where_keys.specs.declared.outside.Outside.{Outside}
use Rattle.where_keys.specs.Sides.{side_in, sides_compare}
use Rattle.where_keys.specs.Keys.{quiet_in}
use Rattle.where_ranges.specs.declared.saying.Told.{Told}

-- What a condition says of a column: a range in which it is on each row of which the condition is true; and whether the condition is true,
-- false or unknown on each row and changes nothing, so that what stands behind it may be looked at.
pub record Said : Type 0 where
  pub range : Range
  pub calm : Bool

abbrev pub said_view : Told → Said
said_view told = record { range = range_of told.range; calm = told.calm }

abbrev pub nothing_said : Bool → Said
nothing_said calm = record { range = everything; calm = calm }

-- ---- comparisons

-- the values that stand so to another
abbrev pub range_by : Option Way → Value → Range
range_by None v = everything
range_by (Some equal) v = record { low = Some (record { value = v; among = true }); high = Some (record { value = v; among = true }) }
range_by (Some unequal) v = everything
range_by (Some below) v = record { low = None; high = Some (record { value = v; among = false }) }
range_by (Some at_most) v = record { low = None; high = Some (record { value = v; among = true }) }
range_by (Some above) v = record { low = Some (record { value = v; among = false }); high = None }
range_by (Some at_least) v = record { low = Some (record { value = v; among = true }); high = None }

-- whether a column is that at a place, and neither it nor a value is NULL
abbrev pub is_asked : ℕ → ℕ → ColumnDef → Value → Bool
is_asked place at c v = at == place && not c.nullable && not (is_null v)

-- a column that is never NULL beside a value that is not
abbrev pub column_range : ℕ → ℕ → ColumnDef → Option Way → Value → Range
column_range place at c way v = if is_asked place at c v then range_by way v else everything

-- two sides that compare
abbrev pub sides_range : ℕ → Option Way → Side → Side → Range
sides_range place way (of_column at c) (of_column other d) = everything
sides_range place way (of_column at c) (standing v) = column_range place at c way v
sides_range place way (standing v) (of_column at c) = column_range place at c (option_map turned way) v
sides_range place way (standing v) (standing w) = everything

-- two sides, where both are known
abbrev pub compared_said : ℕ → Option Way → Option Side → Option Side → Said
compared_said place way None b = nothing_said false
compared_said place way (Some a) None = nothing_said false
compared_said place way (Some a) (Some b) = if sides_compare a b then record { range = sides_range place way a b; calm = true } else nothing_said false

-- ---- conditions

-- AND: what stands behind one that may do more is not looked at
abbrev pub followed : Said → Said → Said
followed a b = if a.calm then record { range = met a.range b.range; calm = b.calm } else a

-- an operator, by what is said of both operands as conditions, as sides, and whether all changes nothing
abbrev pub operator_said : BinOp → Said → Said → Said → Bool → Said
operator_said And a b sides quiet = followed a b
operator_said op a b sides quiet = if is_some (way_of op) then sides else nothing_said quiet

-- what a condition says of the column at a place
abbrev pub said_in : Outside → TableDef → ℕ → Tree → Said
said_in outside d place (binary op a b) =
    operator_said op (said_in outside d place a) (said_in outside d place b) (compared_said place (way_of op) (side_in outside d a) (side_in outside d b)) (quiet_in outside d (binary op a b))
said_in outside d place t = nothing_said (quiet_in outside d t)

-- the range of the first column of the primary key
abbrev pub key_range : Outside → TableDef → Tree → Range
key_range outside d t = option_map_or (λ (place : ℕ). (said_in outside d place t).range) (slice_get d.primary 0) everything
