-- The value of an expression, and the rows of a SELECT.
use Rattle.std.specs.Prelude.{ℕ, zero, suc, Bool, true, false, not, if◌then◌else◌, List, [], ◌∷◌, map, drop, codes, Option, Some, None, pos}
use Rattle.std.specs.declared.cmp.Ordering.{Ordering}
use Rattle.std.specs.Ordering.{is_eq, is_lt}
use Rattle.std.specs.Option.{option_map}
use Rattle.val_types.specs.declared.value.Value.{Value}
use Rattle.val_types.specs.declared.value.Value.TheVariants.{Null, Int, Text}
use Rattle.val_types.specs.declared.definitions.TableDef.{TableDef}
use Rattle.val_types.specs.declared.ops.Func.{Func}
use Rattle.val_types.specs.declared.ops.Func0.{Func0}
use Rattle.val_types.specs.declared.ops.Agg.{Agg}
use Rattle.val_types.specs.Fitting.{is_null}
use Rattle.value_rules.specs.Operators.{truth_value, value_of_truth, truth_of, comparison, decided, binary_value, unary_value}
use Rattle.value_rules.specs.Functions.{builtin_value, is_known_true}
use Rattle.value_rules.specs.Random.{scaled}
use Rattle.value_rules.specs.Moments.{moment_text}
use Rattle.value_rules.specs.Selecting.{first_value, by_items, in_order, aggregate_value}
use Rattle.sql_tree.specs.Tree.{Tree, literal, name, column, new_column, old_column, user_variable, system_variable, unary, binary, is_in, choice, subquery, exists, call, built_in, values_of, name_const, floor_rand}
use Rattle.sql_tree.specs.Tree.{Trees, no_tree, tree, Arms, no_arm, arm, Part, no_part, part, Query, query, Selected, items, all_columns, aggregates}
use Rattle.sql_tree.specs.Tree.{Aggregates, no_aggregate, count_all, aggregate, no_origin, from_table, Orders, no_order, order_by}
use Rattle.sql_tree.specs.BuiltIns.{Manner, all_arguments, first_known, chosen, about}
use Rattle.log_entries.specs.catalog_rules.Names.{same_name}
use Rattle.log_entries.specs.Variables.{variable_value}
use Rattle.sql_meaning.specs.Scenes.{Action, ◌>>=◌, pure, fail, answered, needed, each, kept_by, table_now, draw, next_uuid}
use Rattle.sql_meaning.specs.Frames.{Context, World, Frame, sees, column_if, named_value, qualified_value, limited, capped}

-- ---- parts that see no tree

-- `@@name`, None where it is none that can be read
abbrev pub system_value : Context → List ℕ → Option Value
system_value context n =
    if same_name n (codes "auto_increment_increment") then Some (Int (pos context.increment))
    else if same_name n (codes "auto_increment_offset") then Some (Int (pos context.offset))
    else if same_name n (codes "timestamp") then Some (Int (pos context.stamp))
    else if same_name n (codes "last_insert_id") then Some (Int context.last_id)
    else if same_name n (codes "server_id") then Some (Int (pos context.server_id))
    else None

-- a built-in function without arguments, which asks the context of the session
abbrev pub session_value : World → Func0 → Action Value
session_value world Func0.Now = pure (Text (moment_text world.setting.context.stamp))
session_value world Func0.UnixTimestamp = pure (Int (pos world.setting.context.stamp))
session_value world Func0.SysDate = pure (Text (moment_text world.setting.context.sys))
session_value world Func0.User = capped (Text world.setting.context.user)
session_value world Func0.Uuid = next_uuid world.setting.uuid
session_value world Func0.ConnectionId = pure (Int (pos world.setting.context.connection))
session_value world Func0.LastInsertId = pure (Int world.setting.context.last_id)
session_value world Func0.RowCount = pure (Int world.setting.context.row_count)

-- a built-in function on the values of its arguments
abbrev pub function_value : World → Func → List Value → Action Value
function_value world (Func.Zero f) vs = session_value world f
function_value world f vs = answered (builtin_value f vs)

-- the value of a built-in function, by how it evaluates its arguments: that of all their values, the first known one of
-- them, or the one that the first chooses
abbrev pub by_manner : Manner → Action Value → Action Value → Action Value → Action Value
by_manner all_arguments of_all known choosing = of_all
by_manner first_known of_all known choosing = known
by_manner chosen of_all known choosing = choosing

-- whether a condition is true; unknown is not
abbrev pub holds : Value → Action Bool
holds v = answered (truth_of v) >>= λ t. pure (is_known_true t)

-- a value that is known already, or what comes
abbrev pub unless_known : Option Value → Action Value → Action Value
unless_known None next = next
unless_known (Some v) next = pure v

-- IN behind an item: found, or what the items behind give, with an unknown one on the way or without
abbrev pub found_or : Option Ordering → Action (Option Bool) → Action (Option Bool) → Action (Option Bool)
found_or None unknown other = unknown
found_or (Some order) unknown other = if is_eq order then pure (Some true) else other

-- IN and NOT IN
abbrev pub membership : Bool → Option Bool → Value
membership negated found = value_of_truth (if negated then option_map not found else found)

-- the only value of the only row, NULL where there is none
abbrev pub only_value : List (List Value) → Action Value
only_value [] = pure Null
only_value (row ∷ []) = pure (first_value row)
only_value (row ∷ (more ∷ rest)) = fail 1242

abbrev pub has_rows : List (List Value) → Bool
has_rows [] = false
has_rows (row ∷ rows) = true

-- rows with the values by which they are sorted, in order; those that are alike stay as they stand
abbrev pub sorted : List Bool → List (List Value × List Value) → List (List Value)
sorted downs rows =
    map (λ (r : List Value × List Value). r.1) (in_order (λ (a b : List Value × List Value). is_lt (by_items downs a.0 b.0)) rows)

-- the directions of ORDER BY
abbrev pub directions : Orders → List Bool
directions no_order = []
directions (order_by t down os) = down ∷ directions os

abbrev pub functions_of : Aggregates → List Agg
functions_of no_aggregate = []
functions_of (count_all rest) = Agg.Count ∷ functions_of rest
functions_of (aggregate f a rest) = f ∷ functions_of rest

-- each aggregate of the values of its argument, left to right
abbrev pub formed : List Agg → List (List Value) → Action (List Value)
formed [] rows = pure []
formed (f ∷ fs) rows =
    answered (aggregate_value f (map first_value rows)) >>= λ v. formed fs (map (drop 1) rows) >>= λ vs. pure (v ∷ vs)

-- ---- expressions

abbrev mutual
  pub value : World → Frame → Tree → Action Value
  value world frame (literal v) = capped v
  value world frame (name n) = needed 1054 (named_value frame n)
  value world frame (column t c) = needed 1054 (qualified_value frame t c)
  value world frame (new_column c) = needed 1054 (column_if c frame.new_row)
  value world frame (old_column c) = needed 1054 (column_if c frame.old_row)
  value world frame (user_variable n) = capped (variable_value world.setting.context.variables n)
  value world frame (system_variable n) = needed 1193 (system_value world.setting.context n)
  value world frame (unary op a) = value world frame a >>= λ x. answered (unary_value op x)
  value world frame (binary op a b) =
      value world frame a >>= λ x. answered (decided op x) >>= λ known.
      unless_known known (value world frame b >>= λ y. answered (binary_value op x y))
  value world frame (is_in negated a ts) =
      value world frame a >>= λ x. found_among world frame x (Some false) ts >>= λ found. pure (membership negated found)
  value world frame (choice arms o) = value_of_arms world frame arms (value_of_part world frame o)
  value world frame (subquery q) = rows_of_query world frame q >>= only_value
  value world frame (exists q) = rows_of_query world frame q >>= λ rows. pure (truth_value (has_rows rows))
  value world frame (call n ts) = values world frame ts >>= world.below.call world.running n
  value world frame (values_of c) = needed 1054 (column_if c frame.inserted)
  value world frame (name_const n v) = capped v
  value world frame (floor_rand a) = draw >>= λ s1. value world frame a >>= λ n. answered (scaled s1 n)
  value world frame (built_in f ts) =
      by_manner (about f).manner (values world frame ts >>= function_value world f) (first_known_of world frame ts) (value_of_if world frame ts)

  -- the values of expressions, left to right
  pub values : World → Frame → Trees → Action (List Value)
  values world frame no_tree = pure []
  values world frame (tree t ts) = value world frame t >>= λ x. values world frame ts >>= λ xs. pure (x ∷ xs)

  -- whether a value is among some, up to the first that is equal; unknown where one was and none is equal
  pub found_among : World → Frame → Value → Option Bool → Trees → Action (Option Bool)
  found_among world frame x so_far no_tree = pure so_far
  found_among world frame x so_far (tree t ts) =
      value world frame t >>= λ y. answered (comparison x y) >>= λ order.
      found_or order (found_among world frame x None ts) (found_among world frame x so_far ts)

  -- the value of the first WHEN whose condition is true, or what stands behind
  pub value_of_arms : World → Frame → Arms → Action Value → Action Value
  value_of_arms world frame no_arm otherwise = otherwise
  value_of_arms world frame (arm c v arms) otherwise =
      value world frame c >>= λ x. holds x >>= λ is_true.
      (if is_true then value world frame v else value_of_arms world frame arms otherwise)

  -- ELSE, NULL where there is none
  pub value_of_part : World → Frame → Part → Action Value
  value_of_part world frame no_part = pure Null
  value_of_part world frame (part t) = value world frame t

  -- IF(c, a, b)
  pub value_of_if : World → Frame → Trees → Action Value
  value_of_if world frame no_tree = pure Null
  value_of_if world frame (tree c ts) =
      value world frame c >>= λ x. holds x >>= λ is_true. value_at world frame ts (if is_true then 0 else 1)

  -- the value of the expression at a place
  pub value_at : World → Frame → Trees → ℕ → Action Value
  value_at world frame no_tree place = pure Null
  value_at world frame (tree t ts) zero = value world frame t
  value_at world frame (tree t ts) (suc place) = value_at world frame ts place

  -- the first value that is not NULL; those behind it are left out
  pub first_known_of : World → Frame → Trees → Action Value
  first_known_of world frame no_tree = pure Null
  first_known_of world frame (tree t ts) =
      value world frame t >>= λ x. (if is_null x then first_known_of world frame ts else pure x)

  -- whether WHERE keeps a row
  pub is_kept : World → Frame → Part → Action Bool
  is_kept world frame no_part = pure true
  is_kept world frame (part t) = value world frame t >>= holds

  -- the values of ORDER BY
  pub order_values : World → Frame → Orders → Action (List Value)
  order_values world frame no_order = pure []
  order_values world frame (order_by t down os) =
      value world frame t >>= λ x. order_values world frame os >>= λ xs. pure (x ∷ xs)

  -- the values of the arguments of aggregates; a row counts as 1 for COUNT(*)
  pub argument_values : World → Frame → Aggregates → Action (List Value)
  argument_values world frame no_aggregate = pure []
  argument_values world frame (count_all rest) = argument_values world frame rest >>= λ xs. pure (Int (pos 1) ∷ xs)
  argument_values world frame (aggregate f a rest) =
      value world frame a >>= λ x. argument_values world frame rest >>= λ xs. pure (x ∷ xs)

  -- what is shown of some rows of a table
  pub shown_rows : World → Frame → TableDef → Selected → List (List Value) → Action (List (List Value))
  shown_rows world frame definition (items ts) rows = each (λ row. values world (sees definition row frame) ts) rows
  shown_rows world frame definition all_columns rows = pure rows
  shown_rows world frame definition (aggregates rest) rows =
      each (λ row. argument_values world (sees definition row frame) rest) rows >>= λ arguments.
      formed (functions_of rest) arguments >>= λ row. pure (row ∷ [])

  -- what is shown without a table: one row
  pub row_alone : World → Frame → Selected → Action (List (List Value))
  row_alone world frame (items ts) = values world frame ts >>= λ row. pure (row ∷ [])
  row_alone world frame all_columns = pure []
  row_alone world frame (aggregates rest) = pure []

  -- The rows of a SELECT: WHERE for all rows in the order of their keys, then ORDER BY for those kept, then LIMIT, then
  -- the items.
  pub rows_of_query : World → Frame → Query → Action (List (List Value))
  rows_of_query world frame (query what no_origin) = row_alone world frame what
  rows_of_query world frame (query what (from_table t condition os limit)) =
      table_now t >>= λ table.
      kept_by (λ row. is_kept world (sees table.definition row frame) condition) table.rows >>= λ rows.
      each (λ row. order_values world (sees table.definition row frame) os >>= λ by. pure (by, row)) rows >>= λ keyed.
      shown_rows world frame table.definition what (limited frame.locals limit (sorted (directions os) keyed))
