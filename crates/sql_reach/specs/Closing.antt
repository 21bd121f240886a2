-- A statement of a procedure as it is logged: with its locals closed in.
use Rattle.std.specs.Prelude.{◌≡◌, ℕ, List, map, Option, Some, None, IsTrue}
use Rattle.std.specs.List.{list_all}
use Rattle.std.specs.Option.{option_map}
use Rattle.sql_tree.specs.Tree.{Tree, literal, name, column, new_column, old_column, user_variable, system_variable, unary, binary, is_in, choice, subquery, exists, call, built_in, values_of, name_const, floor_rand}
use Rattle.sql_tree.specs.Tree.{Trees, no_tree, tree, Arms, no_arm, arm, Part, no_part, part, Query, query, Selected, items, all_columns, aggregates}
use Rattle.sql_tree.specs.Tree.{Aggregates, no_aggregate, count_all, aggregate, Origin, no_origin, from_table, Orders, no_order, order_by}
use Rattle.sql_tree.specs.Statement.{Statement, insert_into, replace_into, update_rows, delete_rows, select, evaluate, Supply, rows, rows_of}
use Rattle.sql_tree.specs.Depth.{depth_of}
use Rattle.sql_locals.specs.Locals.{find_local, has_literal}
use Rattle.sql_tree.specs.Well.{IsWell}
use Rattle.sql_tree.specs.declared.expressions.Count.{Count}
use Rattle.sql_tree.specs.declared.expressions.Count.TheVariants as counts
use Rattle.sql_tree.specs.declared.expressions.Limit.{Limit}
use Rattle.sql_locals.specs.declared.locals.Local.{Local}
use Rattle.sql_meaning.specs.Frames.{number_or_none}

-- ---- a map over the names of a tree, and over the numbers and names of its LIMITs

module _ (named : List ℕ → Tree) (counted : Count → Count) where
  abbrev pub limit_mapped : Limit → Limit
  limit_mapped l = record { count = counted l.count; offset = option_map counted l.offset }

  abbrev mutual
    pub tree_mapped : Tree → Tree
    tree_mapped (literal v) = literal v
    tree_mapped (name n) = named n
    tree_mapped (column t c) = column t c
    tree_mapped (new_column c) = new_column c
    tree_mapped (old_column c) = old_column c
    tree_mapped (user_variable n) = user_variable n
    tree_mapped (system_variable n) = system_variable n
    tree_mapped (unary op a) = unary op (tree_mapped a)
    tree_mapped (binary op a b) = binary op (tree_mapped a) (tree_mapped b)
    tree_mapped (is_in negated a ts) = is_in negated (tree_mapped a) (trees_mapped ts)
    tree_mapped (choice arms o) = choice (arms_mapped arms) (part_mapped o)
    tree_mapped (subquery q) = subquery (query_mapped q)
    tree_mapped (exists q) = exists (query_mapped q)
    tree_mapped (call n ts) = call n (trees_mapped ts)
    tree_mapped (values_of c) = values_of c
    tree_mapped (name_const n v) = name_const n v
    tree_mapped (floor_rand a) = floor_rand (tree_mapped a)
    tree_mapped (built_in f ts) = built_in f (trees_mapped ts)

    pub trees_mapped : Trees → Trees
    trees_mapped no_tree = no_tree
    trees_mapped (tree t ts) = tree (tree_mapped t) (trees_mapped ts)

    pub arms_mapped : Arms → Arms
    arms_mapped no_arm = no_arm
    arms_mapped (arm c v arms) = arm (tree_mapped c) (tree_mapped v) (arms_mapped arms)

    pub part_mapped : Part → Part
    part_mapped no_part = no_part
    part_mapped (part t) = part (tree_mapped t)

    pub query_mapped : Query → Query
    query_mapped (query w o) = query (selected_mapped w) (origin_mapped o)

    pub selected_mapped : Selected → Selected
    selected_mapped (items ts) = items (trees_mapped ts)
    selected_mapped all_columns = all_columns
    selected_mapped (aggregates rest) = aggregates (aggregates_mapped rest)

    pub aggregates_mapped : Aggregates → Aggregates
    aggregates_mapped no_aggregate = no_aggregate
    aggregates_mapped (count_all rest) = count_all (aggregates_mapped rest)
    aggregates_mapped (aggregate f a rest) = aggregate f (tree_mapped a) (aggregates_mapped rest)

    pub origin_mapped : Origin → Origin
    origin_mapped no_origin = no_origin
    origin_mapped (from_table t w os l) = from_table t (part_mapped w) (orders_mapped os) (option_map limit_mapped l)

    pub orders_mapped : Orders → Orders
    orders_mapped no_order = no_order
    orders_mapped (order_by t down os) = order_by (tree_mapped t) down (orders_mapped os)

  abbrev pub set_mapped : List ℕ × Tree → List ℕ × Tree
  set_mapped s = (s.0, tree_mapped s.1)

  abbrev pub supply_mapped : Supply → Supply
  supply_mapped (rows rs) = rows (map trees_mapped rs)
  supply_mapped (rows_of q) = rows_of (query_mapped q)

  -- a change, a SELECT or a DO; others are left as they are
  abbrev pub statement_mapped : Statement → Statement
  statement_mapped (insert_into ignore t names supply sets) = insert_into ignore t names (supply_mapped supply) (map set_mapped sets)
  statement_mapped (replace_into t names supply) = replace_into t names (supply_mapped supply)
  statement_mapped (update_rows t sets w os l) = update_rows t (map set_mapped sets) (part_mapped w) (orders_mapped os) (option_map counted l)
  statement_mapped (delete_rows t w os l) = delete_rows t (part_mapped w) (orders_mapped os) (option_map counted l)
  statement_mapped (select q) = select (query_mapped q)
  statement_mapped (evaluate ts) = evaluate (trees_mapped ts)
  statement_mapped s = s

-- ---- closing

-- NAME_CONST for a name that a local hides
abbrev pub const_if : List ℕ → Option Local → Tree
const_if n None = name n
const_if n (Some l) = name_const n l.value

abbrev pub closed_name : List Local → List ℕ → Tree
closed_name locals n = const_if n (find_local locals n)

-- the number of a LIMIT that is a local; a name that cannot be closed stays
abbrev pub number_if : Count → Option ℕ → Count
number_if c None = c
number_if c (Some n) = counts.Number n

abbrev pub closed_by : Count → Option Local → Count
closed_by c None = c
closed_by c (Some l) = number_if c (number_or_none l.value)

abbrev pub closed_count : List Local → Count → Count
closed_count locals (counts.Number n) = counts.Number n
closed_count locals (counts.Name n) = closed_by (counts.Name n) (find_local locals n)

-- a statement with its locals closed in
unfoldable pub closed : Statement → List Local → Statement
closed s locals = statement_mapped (closed_name locals) (closed_count locals) s

-- ---- laws

-- what the parser can give, it can give with locals closed in
abbrev pub ClosedIsWell : Type 0
ClosedIsWell = (s : Statement) (locals : List Local) → IsTrue (list_all has_literal locals) → IsWell s → IsWell (closed s locals)

-- closing adds no level and takes none away
abbrev pub ClosedIsAsDeep : Type 0
ClosedIsAsDeep = (s : Statement) (locals : List Local) → depth_of (closed s locals) ≡ depth_of s
