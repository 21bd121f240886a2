-- The items of lists in expressions: with locals closed in, and as they are written.
use Rattle.std.specs.Prelude.{ℕ, Bool, true, false, List, [], ◌++◌, codes, Option, Some, None}
use Rattle.std.specs.Option.{option_map}
use Rattle.val_types.specs.declared.ops.Agg.{Agg}
use Rattle.sql_tree.specs.Tree.{Tree}
use Rattle.sql_locals.specs.declared.locals.Local.{Local}
use Rattle.sql_print.specs.Spelling.{aggregate_of, direction_of, tree_text}
use Rattle.name_const_length.specs.Closed.{closed_tree}

-- ---- with locals closed in

-- WHEN and THEN
abbrev pub closed_arm : List Local → Tree × Tree → Tree × Tree
closed_arm locals a = (closed_tree locals a.0, closed_tree locals a.1)

-- COUNT(*), or an aggregate with its expression
abbrev pub closed_aggregate : List Local → Option (Agg × Tree) → Option (Agg × Tree)
closed_aggregate locals a = option_map (λ (g : Agg × Tree). (g.0, closed_tree locals g.1)) a

-- an item of ORDER BY
abbrev pub closed_item : List Local → Tree × Bool → Tree × Bool
closed_item locals o = (closed_tree locals o.0, o.1)

-- ---- as they are written

abbrev pub arm_text : Tree × Tree → List ℕ
arm_text a = codes " WHEN " ++ tree_text a.0 ++ codes " THEN " ++ tree_text a.1

abbrev pub aggregate_text : Option (Agg × Tree) → List ℕ
aggregate_text None = codes "COUNT(*)"
aggregate_text (Some g) = aggregate_of g.0 ++ tree_text g.1 ++ codes ")"

abbrev pub item_text : Tree × Bool → List ℕ
item_text o = tree_text o.0 ++ direction_of o.1

-- a comma and a space before each item but the first
abbrev pub comma : Bool → List ℕ
comma true = []
comma false = codes ", "

-- ORDER BY before the first item, a comma and a space before the others
abbrev pub order_words : Bool → List ℕ
order_words true = codes " ORDER BY "
order_words false = codes ", "
