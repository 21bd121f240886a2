-- Which values may be put into a column, and which rows may stand in a table.
use Rattle.std.specs.Prelude.{ℕ, ◌-◌, ◌^◌, Bool, true, false, not, ◌&&◌, ◌||◌, nat_le, if◌then◌else◌, List, [], ◌∷◌, length, Result, Ok, Err, ℤ, pos, neg_ℤ, int_le, int_lt}
use Rattle.std.specs.Result.{is_ok}
use Rattle.val_types.specs.declared.value.Value.{Value}
use Rattle.val_types.specs.declared.value.Value.TheVariants.{Null, Int, Text}
use Rattle.val_types.specs.declared.definitions.ColType.{ColType}
use Rattle.val_types.specs.declared.definitions.ColType.TheVariants.{Int as IntType, BigInt, Varchar}
use Rattle.val_types.specs.declared.definitions.ColumnDef.{ColumnDef}
use Rattle.val_types.specs.Errors.{kinds_mixed, out_of_range, too_long_for_column}

-- the numbers of 32 and of 64 bits
abbrev pub is_int : ℤ → Bool
is_int n = int_le (neg_ℤ (pos (2 ^ 31))) n && int_lt n (pos (2 ^ 31))

abbrev pub is_bigint : ℤ → Bool
is_bigint n = int_le (neg_ℤ (pos (2 ^ 63))) n && int_lt n (pos (2 ^ 63))

-- whether a value may be put where a type is declared: NULL everywhere, a number where a number of its
-- size is declared, a text where one of its length in bytes is; else the error
abbrev pub fitting : ColType → Value → Result (Unit {0}) ℕ
fitting kind Null = Ok tt
fitting IntType (Int n) = if is_int n then Ok tt else Err out_of_range
fitting IntType (Text t) = Err kinds_mixed
fitting BigInt (Int n) = if is_bigint n then Ok tt else Err out_of_range
fitting BigInt (Text t) = Err kinds_mixed
fitting (Varchar most) (Int n) = Err kinds_mixed
fitting (Varchar most) (Text t) = if nat_le (length t) most then Ok tt else Err too_long_for_column

-- the greatest number of a type; a VARCHAR, which has none, counts as BIGINT
abbrev pub greatest_of : ColType → ℤ
greatest_of IntType = pos (2 ^ 31 - 1)
greatest_of BigInt = pos (2 ^ 63 - 1)
greatest_of (Varchar most) = pos (2 ^ 63 - 1)

-- whether a value is NULL
abbrev pub is_null : Value → Bool
is_null Null = true
is_null (Int n) = false
is_null (Text t) = false

-- whether a stored row may hold a value in a column: it fits the type, and is not NULL where the column is NOT NULL
abbrev pub may_hold : ColumnDef → Value → Bool
may_hold column v = is_ok (fitting column.kind v) && (column.nullable || not (is_null v))

-- a row has one value for each column, which the column may hold
abbrev pub row_fits : List ColumnDef → List Value → Bool
row_fits [] [] = true
row_fits [] (v ∷ vs) = false
row_fits (column ∷ columns) [] = false
row_fits (column ∷ columns) (v ∷ vs) = may_hold column v && row_fits columns vs
