-- What is known of a condition before a row is looked at.
use Rattle.std.specs.Prelude.{ℕ, Bool, true, false, not, ◌&&◌, ◌||◌, if◌then◌else◌, List, [], ◌∷◌, ◌++◌, Option, Some, None}
use Rattle.val_types.specs.declared.value.Value.{Value}
use Rattle.val_types.specs.declared.value.Value.TheVariants.{Null, Int, Text}
use Rattle.val_types.specs.declared.definitions.ColumnDef.{ColumnDef}
use Rattle.val_types.specs.declared.definitions.TableDef.{TableDef}
use Rattle.val_types.specs.declared.ops.BinOp.{BinOp}
use Rattle.val_types.specs.declared.ops.BinOp.TheVariants.{Or, And, NullSafeEqual}
use Rattle.val_types.specs.declared.ops.UnOp.{UnOp}
use Rattle.val_types.specs.declared.ops.UnOp.TheVariants.{Negate, Not, IsNull, IsNotNull}
use Rattle.sql_tree.specs.Tree.{Tree, unary, binary, Part, no_part, part}
use Rattle.sql_meaning.specs.Frames.{World, Frame}
use Rattle.where_laws.specs.Facts.{Way, turned, way_of, Fact}
use Rattle.where_laws.specs.Sides.{Side, of_column, standing, side_of, kind_of, do_compare, is_condition}

-- What is known of a condition: whether it is just that its facts are so; whether on each row it is true, false or unknown, and changes
-- nothing; what is so of a row where it is not false; and what is so of a row where it is true.
pub record Known : Type 0 where
  pub whole : Bool
  pub quiet : Bool
  pub facts : List Fact
  pub kept : List Fact

-- a condition of which nothing is known
abbrev pub nothing_known : Known
nothing_known = record { whole = false; quiet = false; facts = []; kept = [] }

-- one that changes nothing, or of which nothing is known
abbrev pub just_quiet : Bool → Known
just_quiet quiet = record { whole = false; quiet = quiet; facts = []; kept = [] }

-- ---- comparisons

-- a comparison of a column with a value that is not NULL: where the column may be NULL, the comparison is unknown then, but for `<=>`
abbrev pub says : Bool → Fact → Known
says true fact = record { whole = true; quiet = true; facts = fact ∷ []; kept = fact ∷ [] }
says false fact = record { whole = false; quiet = true; facts = []; kept = fact ∷ [] }

-- `<=>` is never unknown
abbrev pub is_null_safe : BinOp → Bool
is_null_safe NullSafeEqual = true
is_null_safe op = false

-- whether a comparison with a value is true or false whatever stands in a column
abbrev pub is_sure : BinOp → ColumnDef → Bool
is_sure op c = is_null_safe op || not c.nullable

-- a column beside a value: what is so of the column where the value is not NULL
abbrev pub column_beside : BinOp → Way → ℕ → ColumnDef → Value → Known
column_beside op way place c Null = just_quiet true
column_beside op way place c (Int n) = says (is_sure op c) (record { place = place; way = way; value = Int n })
column_beside op way place c (Text t) = says (is_sure op c) (record { place = place; way = way; value = Text t })

-- two sides whose values compare
abbrev pub sides_compared : BinOp → Way → Side → Side → Known
sides_compared op way (of_column place c) (of_column other d) = just_quiet true
sides_compared op way (of_column place c) (standing v) = column_beside op way place c v
sides_compared op way (standing v) (of_column place c) = column_beside op (turned way) place c v
sides_compared op way (standing v) (standing w) = just_quiet true

-- two sides, where both are known
abbrev pub compared_sides : BinOp → Way → Option Side → Option Side → Known
compared_sides op way None b = nothing_known
compared_sides op way (Some a) None = nothing_known
compared_sides op way (Some a) (Some b) = if do_compare (kind_of a) (kind_of b) then sides_compared op way a b else nothing_known

-- an operator that is a comparison, between two sides
abbrev pub compared : BinOp → Option Way → Option Side → Option Side → Known
compared op None a b = nothing_known
compared op (Some way) a b = compared_sides op way a b

-- ---- conditions

-- AND: what stands behind one that may do more is not looked at
abbrev pub both_known : Known → Known → Known
both_known a b = record {
  whole = a.whole && b.whole;
  quiet = a.quiet && b.quiet;
  facts = a.facts ++ (if a.quiet then b.facts else []);
  kept = (if b.quiet then a.kept else a.facts) ++ (if a.quiet then b.kept else []);
}

-- a binary operator on conditions, or on sides
abbrev pub operator_known : BinOp → Known → Known → Known → Known
operator_known And a b comparison = both_known a b
operator_known Or a b comparison = just_quiet (a.quiet && b.quiet)
operator_known op a b comparison = comparison

-- a side alone, as a condition
abbrev pub side_known : Option Side → Known
side_known None = nothing_known
side_known (Some side) = just_quiet (is_condition (kind_of side))

-- whether a side is known
abbrev pub is_side : Option Side → Bool
is_side None = false
is_side (Some side) = true

-- a unary operator on a condition, or on a side
abbrev pub unary_known : UnOp → Known → Option Side → Option Side → Known
unary_known Negate a of_side whole = side_known whole
unary_known Not a of_side whole = just_quiet a.quiet
unary_known IsNull a of_side whole = just_quiet (is_side of_side)
unary_known IsNotNull a of_side whole = just_quiet (is_side of_side)

-- What is known of a condition over a table: read from the tree, the definition of the table, and what is round it.
abbrev pub known : World → Frame → TableDef → Tree → Known
known world frame definition (binary op a b) =
    operator_known op (known world frame definition a) (known world frame definition b)
    (compared op (way_of op) (side_of world frame definition a) (side_of world frame definition b))
known world frame definition (unary op a) =
    unary_known op (known world frame definition a) (side_of world frame definition a) (side_of world frame definition (unary op a))
known world frame definition t = side_known (side_of world frame definition t)

-- what is so of each row that a WHERE keeps
abbrev pub facts_of : World → Frame → TableDef → Part → List Fact
facts_of world frame definition no_part = []
facts_of world frame definition (part t) = (known world frame definition t).kept
