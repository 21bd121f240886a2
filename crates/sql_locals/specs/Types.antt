-- The type of a column or a local, as one that was written is.
use Rattle.std.specs.Prelude.{Bool, true, nat_le, if◌then◌else◌, Option, Some, None}
use Rattle.val_types.specs.declared.definitions.ColType.{ColType}
use Rattle.val_types.specs.declared.definitions.ColType.TheVariants as kinds
use Rattle.sql_tree.specs.declared.statements.SqlType.{SqlType}
use Rattle.sql_tree.specs.declared.statements.SqlType.TheVariants as types

-- the type that is written so
abbrev pub column_type : SqlType → ColType
column_type types.Int = kinds.Int
column_type types.BigInt = kinds.BigInt
column_type (types.Varchar most) = kinds.Varchar most

-- whether there is a type of that size: VARCHAR has at most 65535 bytes
abbrev pub has_size : SqlType → Bool
has_size types.Int = true
has_size types.BigInt = true
has_size (types.Varchar most) = nat_le most 65535

-- the type, where there is one of that size
abbrev pub column_type_if : SqlType → Option ColType
column_type_if kind = if has_size kind then Some (column_type kind) else None
