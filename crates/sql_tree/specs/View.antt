-- The plain tree that a tree of the code stands for.
use Rattle.std.specs.Prelude.{Bool, List, [], ◌∷◌, Option, Some, None, map}
use Rattle.val_types.specs.declared.ops.Agg.{Agg}
use Rattle.sql_tree.specs.Tree.{Tree, literal, name, column, new_column, old_column, user_variable, system_variable, unary, binary, is_in, choice, subquery, exists, call, values_of, name_const, floor_rand}
use Rattle.sql_tree.specs.Tree.{Trees, no_tree, tree, Arms, no_arm, arm, Part, no_part, part, Query, query, Selected, items, all_columns, aggregates}
use Rattle.sql_tree.specs.Tree.{Aggregates, no_aggregate, count_all, aggregate, Origin, no_origin, from_table, Orders, no_order, order_by}
use Rattle.sql_tree.specs.BuiltIns.{on_none, on_one, on_two, on_three, on_many}
use Rattle.sql_tree.specs.declared.expressions.Aggregate.TheOpen.{Aggregate-F, Expr-F, Selection-F, Arm-F, FromClause-F, OrderItem-F, Select-F}
use Rattle.sql_tree.specs.declared.expressions.Expr.{Expr, fold-Expr}
use Rattle.sql_tree.specs.declared.expressions.Arm.{Arm, fold-Arm}
use Rattle.sql_tree.specs.declared.expressions.Aggregate.{Aggregate, fold-Aggregate}
use Rattle.sql_tree.specs.declared.expressions.Selection.{Selection, fold-Selection}
use Rattle.sql_tree.specs.declared.expressions.FromClause.{FromClause, fold-FromClause}
use Rattle.sql_tree.specs.declared.expressions.OrderItem.{OrderItem, fold-OrderItem}
use Rattle.sql_tree.specs.declared.expressions.Select.{Select, fold-Select}

-- lists and options whose expressions are seen as trees

abbrev pub trees_of : List Tree → Trees
trees_of [] = no_tree
trees_of (t ∷ ts) = tree t (trees_of ts)

abbrev pub arms_of : List (Tree × Tree) → Arms
arms_of [] = no_arm
arms_of (a ∷ as') = arm a.0 a.1 (arms_of as')

abbrev pub part_of : Option Tree → Part
part_of None = no_part
part_of (Some t) = part t

-- an aggregate before others, where None is COUNT(*)
abbrev pub aggregate_before : Option (Agg × Tree) → Aggregates → Aggregates
aggregate_before None rest = count_all rest
aggregate_before (Some a) rest = aggregate a.0 a.1 rest

abbrev pub aggregates_of : List (Option (Agg × Tree)) → Aggregates
aggregates_of [] = no_aggregate
aggregates_of (a ∷ as') = aggregate_before a (aggregates_of as')

abbrev pub origin_of : Option Origin → Origin
origin_of None = no_origin
origin_of (Some o) = o

abbrev pub orders_of : List (Tree × Bool) → Orders
orders_of [] = no_order
orders_of (o ∷ os) = order_by o.0 o.1 (orders_of os)

-- one level of each type, with what is inside already seen as trees
-- what each type is seen as: Aggregate, Expr, Selection, Arm, FromClause, OrderItem, Select
abbrev pub aggregate_step : Aggregate-F (Option (Agg × Tree)) Tree Selected (Tree × Tree) Origin (Tree × Bool) Query → Option (Agg × Tree)
aggregate_step Aggregate-F.CountAll = None
aggregate_step (Aggregate-F.Of f a) = Some (f, a)

abbrev pub tree_step : Expr-F (Option (Agg × Tree)) Tree Selected (Tree × Tree) Origin (Tree × Bool) Query → Tree
tree_step (Expr-F.Literal v) = literal v
tree_step (Expr-F.Name n) = name n
tree_step (Expr-F.Column t c) = column t c
tree_step (Expr-F.NewColumn c) = new_column c
tree_step (Expr-F.OldColumn c) = old_column c
tree_step (Expr-F.UserVariable n) = user_variable n
tree_step (Expr-F.SystemVariable n) = system_variable n
tree_step (Expr-F.Unary op a) = unary op a
tree_step (Expr-F.Binary op a b) = binary op a b
tree_step (Expr-F.In negated a ts) = is_in negated a (trees_of ts)
tree_step (Expr-F.Case arms o) = choice (arms_of arms) (part_of o)
tree_step (Expr-F.Subquery q) = subquery q
tree_step (Expr-F.Exists q) = exists q
tree_step (Expr-F.Call n ts) = call n (trees_of ts)
tree_step (Expr-F.Values c) = values_of c
tree_step (Expr-F.NameConst n v) = name_const n v
tree_step (Expr-F.FloorRand a) = floor_rand a
tree_step (Expr-F.Func0 f) = on_none f
tree_step (Expr-F.Func1 f a) = on_one f a
tree_step (Expr-F.Func2 f a b) = on_two f a b
tree_step (Expr-F.Func3 f a b c) = on_three f a b c
tree_step (Expr-F.FuncN f ts) = on_many f (trees_of ts)

abbrev pub selected_step : Selection-F (Option (Agg × Tree)) Tree Selected (Tree × Tree) Origin (Tree × Bool) Query → Selected
selected_step (Selection-F.Items ts) = items (trees_of ts)
selected_step Selection-F.All = all_columns
selected_step (Selection-F.Aggregates as') = aggregates (aggregates_of as')

abbrev pub arm_step : Arm-F (Option (Agg × Tree)) Tree Selected (Tree × Tree) Origin (Tree × Bool) Query → Tree × Tree
arm_step a = (a.condition, a.value)

abbrev pub origin_step : FromClause-F (Option (Agg × Tree)) Tree Selected (Tree × Tree) Origin (Tree × Bool) Query → Origin
origin_step f = from_table f.table (part_of f.filter) (orders_of f.order) f.limit

abbrev pub order_step : OrderItem-F (Option (Agg × Tree)) Tree Selected (Tree × Tree) Origin (Tree × Bool) Query → Tree × Bool
order_step o = (o.by, o.descending)

abbrev pub query_step : Select-F (Option (Agg × Tree)) Tree Selected (Tree × Tree) Origin (Tree × Bool) Query → Query
query_step q = query q.what (origin_of q.from)

-- the views

abbrev pub view_tree : Expr → Tree
view_tree = fold-Expr (Option (Agg × Tree)) Tree Selected (Tree × Tree) Origin (Tree × Bool) Query aggregate_step tree_step selected_step arm_step origin_step order_step query_step

abbrev pub view_arm : Arm → Tree × Tree
view_arm = fold-Arm (Option (Agg × Tree)) Tree Selected (Tree × Tree) Origin (Tree × Bool) Query aggregate_step tree_step selected_step arm_step origin_step order_step query_step

abbrev pub view_aggregate : Aggregate → Option (Agg × Tree)
view_aggregate = fold-Aggregate (Option (Agg × Tree)) Tree Selected (Tree × Tree) Origin (Tree × Bool) Query aggregate_step tree_step selected_step arm_step origin_step order_step query_step

abbrev pub view_selected : Selection → Selected
view_selected = fold-Selection (Option (Agg × Tree)) Tree Selected (Tree × Tree) Origin (Tree × Bool) Query aggregate_step tree_step selected_step arm_step origin_step order_step query_step

abbrev pub view_from : FromClause → Origin
view_from = fold-FromClause (Option (Agg × Tree)) Tree Selected (Tree × Tree) Origin (Tree × Bool) Query aggregate_step tree_step selected_step arm_step origin_step order_step query_step

abbrev pub view_order : OrderItem → Tree × Bool
view_order = fold-OrderItem (Option (Agg × Tree)) Tree Selected (Tree × Tree) Origin (Tree × Bool) Query aggregate_step tree_step selected_step arm_step origin_step order_step query_step

abbrev pub view_query : Select → Query
view_query = fold-Select (Option (Agg × Tree)) Tree Selected (Tree × Tree) Origin (Tree × Bool) Query aggregate_step tree_step selected_step arm_step origin_step order_step query_step

-- the views of lists and options on their own

abbrev pub view_trees : List Expr → Trees
view_trees es = trees_of (map view_tree es)

abbrev pub view_arms : List Arm → Arms
view_arms as' = arms_of (map view_arm as')

abbrev pub view_part : Option Expr → Part
view_part None = no_part
view_part (Some e) = part (view_tree e)

abbrev pub view_aggregates : List Aggregate → Aggregates
view_aggregates as' = aggregates_of (map view_aggregate as')

abbrev pub view_origin : Option FromClause → Origin
view_origin None = no_origin
view_origin (Some f) = view_from f

abbrev pub view_orders : List OrderItem → Orders
view_orders os = orders_of (map view_order os)
