-- How expressions and SELECTs are written.
use Rattle.std.specs.Prelude.{ℕ, Bool, true, false, if◌then◌else◌, List, [], ◌++◌, codes}
use Rattle.val_types.specs.Text.{text_of}
use Rattle.val_types.specs.declared.value.Value.TheVariants.{Text}
use Rattle.val_types.specs.declared.ops.UnOp.{UnOp}
use Rattle.val_types.specs.declared.ops.BinOp.{BinOp}
use Rattle.val_types.specs.declared.ops.Func.{Func}
use Rattle.val_types.specs.declared.ops.Agg.{Agg}
use Rattle.sql_tree.specs.BuiltIns.{about}
use Rattle.sql_tree.specs.Tree.{Tree, literal, name, column, new_column, old_column, user_variable, system_variable, unary, binary, is_in, choice, subquery, exists, call, built_in, values_of, name_const, floor_rand}
use Rattle.sql_tree.specs.Tree.{Trees, no_tree, tree, Arms, no_arm, arm, Part, no_part, part, Query, query, Selected, items, all_columns, aggregates}
use Rattle.sql_tree.specs.Tree.{Aggregates, no_aggregate, count_all, aggregate, Origin, no_origin, from_table, Orders, no_order, order_by}
use Rattle.sql_print.specs.Names.{quoted_name, bare_name, limit_if}

-- a binary operator between blanks
abbrev pub operator_of : BinOp → List ℕ
operator_of BinOp.Or = codes " OR "
operator_of BinOp.And = codes " AND "
operator_of BinOp.Equal = codes " = "
operator_of BinOp.NullSafeEqual = codes " <=> "
operator_of BinOp.NotEqual = codes " <> "
operator_of BinOp.Less = codes " < "
operator_of BinOp.LessOrEqual = codes " <= "
operator_of BinOp.Greater = codes " > "
operator_of BinOp.GreaterOrEqual = codes " >= "
operator_of BinOp.Add = codes " + "
operator_of BinOp.Subtract = codes " - "
operator_of BinOp.Multiply = codes " * "
operator_of BinOp.Divide = codes " DIV "
operator_of BinOp.Modulo = codes " MOD "

-- what stands before the operand of an operator on one
abbrev pub before_operand : UnOp → List ℕ
before_operand UnOp.Negate = codes "(- "
before_operand UnOp.Not = codes "(NOT "
before_operand UnOp.IsNull = codes "("
before_operand UnOp.IsNotNull = codes "("

-- what stands behind the operand of an operator on one
abbrev pub behind_operand : UnOp → List ℕ
behind_operand UnOp.Negate = codes ")"
behind_operand UnOp.Not = codes ")"
behind_operand UnOp.IsNull = codes " IS NULL)"
behind_operand UnOp.IsNotNull = codes " IS NOT NULL)"

-- IN or NOT IN
abbrev pub in_of : Bool → List ℕ
in_of true = codes " NOT IN ("
in_of false = codes " IN ("

-- an aggregate up to its expression
abbrev pub aggregate_of : Agg → List ℕ
aggregate_of Agg.Count = codes "COUNT("
aggregate_of Agg.Sum = codes "SUM("
aggregate_of Agg.Min = codes "MIN("
aggregate_of Agg.Max = codes "MAX("

-- the name of a built-in function
abbrev pub function_of : Func → List ℕ
function_of f = (about f).name

-- DESC
abbrev pub direction_of : Bool → List ℕ
direction_of true = codes " DESC"
direction_of false = []

-- an expression is a CASE
abbrev pub is_choice : Tree → Bool
is_choice (choice arms o) = true
is_choice _ = false

abbrev mutual
  -- an expression
  pub tree_text : Tree → List ℕ
  tree_text (literal v) = text_of v
  tree_text (name n) = quoted_name n
  tree_text (column t c) = quoted_name t ++ codes "." ++ quoted_name c
  tree_text (new_column c) = codes "NEW." ++ quoted_name c
  tree_text (old_column c) = codes "OLD." ++ quoted_name c
  tree_text (user_variable n) = codes "@" ++ quoted_name n
  tree_text (system_variable n) = codes "@@" ++ bare_name n
  tree_text (unary op a) = before_operand op ++ tree_text a ++ behind_operand op
  tree_text (binary op a b) = codes "(" ++ tree_text a ++ operator_of op ++ tree_text b ++ codes ")"
  tree_text (is_in negated a ts) = codes "(" ++ tree_text a ++ in_of negated ++ trees_text ts ++ codes "))"
  tree_text (choice arms o) = codes "CASE" ++ arms_text arms ++ else_text o ++ codes " END"
  tree_text (subquery q) = codes "(" ++ query_text q ++ codes ")"
  tree_text (exists q) = codes "EXISTS (" ++ query_text q ++ codes ")"
  tree_text (call n ts) = quoted_name n ++ codes "(" ++ trees_text ts ++ codes ")"
  tree_text (values_of c) = codes "VALUES(" ++ quoted_name c ++ codes ")"
  tree_text (name_const n v) = codes "NAME_CONST(" ++ text_of (Text n) ++ codes ", " ++ text_of v ++ codes ")"
  tree_text (floor_rand a) = codes "FLOOR(RAND() * " ++ (if is_choice a then codes "(" ++ tree_text a ++ codes ")" else tree_text a) ++ codes ")"
  tree_text (built_in f ts) = function_of f ++ codes "(" ++ trees_text ts ++ codes ")"

  -- expressions with a comma and a space between two
  pub trees_text : Trees → List ℕ
  trees_text no_tree = []
  trees_text (tree t ts) = tree_text t ++ more_trees_text ts

  -- the expressions behind the first
  pub more_trees_text : Trees → List ℕ
  more_trees_text no_tree = []
  more_trees_text (tree t ts) = codes ", " ++ tree_text t ++ more_trees_text ts

  -- the WHENs of a CASE
  pub arms_text : Arms → List ℕ
  arms_text no_arm = []
  arms_text (arm c v arms) = codes " WHEN " ++ tree_text c ++ codes " THEN " ++ tree_text v ++ arms_text arms

  -- the ELSE of a CASE
  pub else_text : Part → List ℕ
  else_text no_part = []
  else_text (part t) = codes " ELSE " ++ tree_text t

  -- WHERE
  pub where_text : Part → List ℕ
  where_text no_part = []
  where_text (part t) = codes " WHERE " ++ tree_text t

  -- a SELECT
  pub query_text : Query → List ℕ
  query_text (query w o) = codes "SELECT " ++ selected_text w ++ origin_text o

  -- what a SELECT gives
  pub selected_text : Selected → List ℕ
  selected_text (items ts) = trees_text ts
  selected_text all_columns = codes "*"
  selected_text (aggregates rest) = aggregates_text rest

  -- aggregates with a comma and a space between two
  pub aggregates_text : Aggregates → List ℕ
  aggregates_text no_aggregate = []
  aggregates_text (count_all rest) = codes "COUNT(*)" ++ more_aggregates_text rest
  aggregates_text (aggregate f a rest) = aggregate_of f ++ tree_text a ++ codes ")" ++ more_aggregates_text rest

  -- the aggregates behind the first
  pub more_aggregates_text : Aggregates → List ℕ
  more_aggregates_text no_aggregate = []
  more_aggregates_text (count_all rest) = codes ", COUNT(*)" ++ more_aggregates_text rest
  more_aggregates_text (aggregate f a rest) = codes ", " ++ aggregate_of f ++ tree_text a ++ codes ")" ++ more_aggregates_text rest

  -- FROM with what follows it
  pub origin_text : Origin → List ℕ
  origin_text no_origin = []
  origin_text (from_table t w os l) = codes " FROM " ++ quoted_name t ++ where_text w ++ orders_text os ++ limit_if l

  -- ORDER BY
  pub orders_text : Orders → List ℕ
  orders_text no_order = []
  orders_text (order_by t descending os) = codes " ORDER BY " ++ tree_text t ++ direction_of descending ++ more_orders_text os

  -- the items of ORDER BY behind the first
  pub more_orders_text : Orders → List ℕ
  more_orders_text no_order = []
  more_orders_text (order_by t descending os) = codes ", " ++ tree_text t ++ direction_of descending ++ more_orders_text os

-- the number that RAND() is multiplied by, a CASE in parentheses
abbrev pub factor_text : Tree → List ℕ
factor_text a = if is_choice a then codes "(" ++ tree_text a ++ codes ")" else tree_text a
