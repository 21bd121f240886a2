-- Small trees, of which worked examples are made.
use Rattle.std.specs.Prelude.{ℕ, zero, suc, Bool, false, codes, pos, List, [], ◌∷◌, Option, Some, None}
use Rattle.val_types.specs.declared.value.Value.TheVariants.{Int}
use Rattle.val_types.specs.declared.ops.UnOp.TheVariants.{Negate}
use Rattle.val_types.specs.declared.ops.BinOp.TheVariants.{Add}
use Rattle.sql_tree.specs.Tree.{Tree, Trees, literal, name, unary, binary, Part, no_part, items, Origin, no_origin, from_table, Orders, no_order, order_by, Query, query}
use Rattle.sql_tree.specs.Statement.{Declared}
use Rattle.sql_tree.specs.View.{trees_of}
use Rattle.sql_tree.specs.declared.expressions.Limit.{Limit}
use Rattle.sql_tree.specs.declared.expressions.Count.{Count}
use Rattle.sql_tree.specs.declared.statements.SqlType.{SqlType}
use Rattle.sql_tree.specs.declared.statements.Column.{Column}
use Rattle.sql_tree.specs.declared.statements.UniqueKey.{UniqueKey}
use Rattle.sql_tree.specs.declared.statements.CreateTable.{CreateTable}
use Rattle.sql_tree.specs.declared.statements.Parameter.{Parameter}
use Rattle.sql_tree.specs.declared.statements.Target.{Target}

-- `1`, which is one deep
abbrev pub one : Tree
one = literal (Int (pos 1))

-- `- 1`, which is two deep
abbrev pub two : Tree
two = unary Negate one

-- an expression that no text gives: a name of no bytes
abbrev pub ill : Tree
ill = name []

-- `1 + 1 + .. + 1` with so many terms behind the first
abbrev pub sum : ℕ → Tree
sum zero = one
sum (suc n) = binary Add (sum n) one

-- FROM t with these parts
abbrev pub from_t : Part → Orders → Option Limit → Origin
from_t = from_table (codes "t")

-- FROM t alone
abbrev pub all_of_t : Origin
all_of_t = from_t no_part no_order None

-- ORDER BY one expression, ascending
abbrev pub by : Tree → Orders
by t = order_by t false no_order

-- LIMIT with a count and an offset
abbrev pub limit_of : Count → Option Count → Option Limit
limit_of n offset = Some (record { count = n; offset = offset })

-- SELECT of one expression without FROM
abbrev pub only : Tree → Query
only t = query (items (trees_of (t ∷ []))) no_origin

-- one row of VALUES
abbrev pub row_of : List Tree → List Trees
row_of ts = trees_of ts ∷ []

-- `a = value`
abbrev pub set_a : Tree → List (List ℕ × Tree)
set_a t = (codes "a", t) ∷ []

-- SET of one value
abbrev pub assigned : Target → Tree → List (Target × Tree)
assigned to t = (to, t) ∷ []

-- DECLARE
abbrev pub declared_as : List (List ℕ) → SqlType → Part → Declared
declared_as ns k d = record { names = ns; kind = k; preset = d }

-- a column, NULL or NOT NULL
abbrev pub column_of : List ℕ → SqlType → Bool → Column
column_of n k nullable = record { name = n; kind = k; nullable = nullable; preset = None; auto_increment = false }

-- a unique key of these columns
abbrev pub key_of : List ℕ → List (List ℕ) → UniqueKey
key_of n columns = record { name = n; columns = columns }

-- CREATE TABLE t
abbrev pub table_of : List Column → Option (List (List ℕ)) → List UniqueKey → CreateTable
table_of columns primary uniques = record { name = codes "t"; columns = columns; primary = primary; uniques = uniques }

-- a parameter of a stored program
abbrev pub parameter_of : List ℕ → SqlType → Parameter
parameter_of n k = record { name = n; kind = k }
