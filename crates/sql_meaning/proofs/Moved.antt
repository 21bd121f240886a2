-- What holds of calls holds of expressions and SELECTs, by induction over their definitions.
use Rattle.std.proofs.Common.{ℕ, zero, suc, List, [], ◌∷◌, Bool, true, false, Option, Some, None}
use Rattle.std.specs.declared.cmp.Ordering.{Ordering}
use Rattle.std.specs.Ordering.{is_eq}
use Rattle.val_types.specs.declared.value.Value.{Value}
use Rattle.val_types.specs.declared.value.Value.TheVariants.{Null, Int, Text}
use Rattle.val_types.specs.declared.definitions.TableDef.{TableDef}
use Rattle.val_types.specs.declared.ops.Func.{Func}
use Rattle.val_types.specs.declared.ops.Func0.{Func0}
use Rattle.val_types.specs.declared.ops.Agg.{Agg}
use Rattle.value_rules.specs.Functions.{builtin_value}
use Rattle.value_rules.specs.Random.{scaled}
use Rattle.log_entries.specs.Variables.{variable_value}
use Rattle.sql_tree.specs.Tree.{Tree, literal, name, column, new_column, old_column, user_variable, system_variable, unary, binary, is_in, choice, subquery, exists, call, built_in, values_of, name_const, floor_rand}
use Rattle.sql_tree.specs.Tree.{Trees, no_tree, tree, Arms, no_arm, arm, Part, no_part, part, Query, query, Selected, items, all_columns, aggregates}
use Rattle.sql_tree.specs.Tree.{Aggregates, no_aggregate, count_all, aggregate, no_origin, from_table, Orders, no_order, order_by}
use Rattle.sql_tree.specs.BuiltIns.{Manner, all_arguments, first_known, chosen, about}
use Rattle.sql_meaning.specs.Scenes.{Scene, Action, ◌>>=◌, pure, answered, each, kept_by, table_now, draw}
use Rattle.sql_meaning.specs.Frames.{Running, Below, World, Frame, sees, capped}
use Rattle.sql_meaning.specs.Values.{session_value, function_value, by_manner, holds, unless_known, found_or, only_value, formed, functions_of, value, values, found_among, value_of_arms, value_of_part, value_of_if, value_at, first_known_of, is_kept, order_values, argument_values, shown_rows, row_alone, rows_of_query}
use Rattle.sql_meaning.proofs.Steps.{IsMove, IsMoved, bind_moved, pure_moved, fail_moved, answered_moved, needed_moved, if_moved, each_moved, kept_moved, table_moved, draw_moved, uuid_moved}

-- so it is with what functions do one level further down
pub record CallsMoved (R : Scene → Scene → Type 0) (below : Below) : Type 0 where
  pub calls : (running : Running) (n : List ℕ) (vs : List Value) → IsMoved R (below.call running n vs)

module _ {R : Scene → Scene → Type 0} (law : IsMove R) where
  -- ---- parts that see no tree

  pub capped_moved : (v : Value) → IsMoved R (capped v)
  capped_moved Null = pure_moved law Null
  capped_moved (Int n) = pure_moved law (Int n)
  capped_moved (Text t) = answered_moved law _

  session_moved : (world : World) (f : Func0) → IsMoved R (session_value world f)
  session_moved world Func0.Now = pure_moved law _
  session_moved world Func0.UnixTimestamp = pure_moved law _
  session_moved world Func0.SysDate = pure_moved law _
  session_moved world Func0.User = capped_moved (Text world.setting.context.user)
  session_moved world Func0.Uuid = uuid_moved law _
  session_moved world Func0.ConnectionId = pure_moved law _
  session_moved world Func0.LastInsertId = pure_moved law _
  session_moved world Func0.RowCount = pure_moved law _

  function_moved : (world : World) (f : Func) (vs : List Value) → IsMoved R (function_value world f vs)
  function_moved world (Func.Zero f) vs = session_moved world f
  function_moved world (Func.One f) vs = answered_moved law (builtin_value (Func.One f) vs)
  function_moved world (Func.Two f) vs = answered_moved law (builtin_value (Func.Two f) vs)
  function_moved world (Func.Three f) vs = answered_moved law (builtin_value (Func.Three f) vs)
  function_moved world (Func.Many f) vs = answered_moved law (builtin_value (Func.Many f) vs)

  manner_moved : (m : Manner) (of_all known choosing : Action Value) → IsMoved R of_all → IsMoved R known → IsMoved R choosing → IsMoved R (by_manner m of_all known choosing)
  manner_moved all_arguments of_all known choosing p q r = p
  manner_moved first_known of_all known choosing p q r = q
  manner_moved chosen of_all known choosing p q r = r

  pub holds_moved : (v : Value) → IsMoved R (holds v)
  holds_moved v = bind_moved law (answered _) _ (answered_moved law _) (λ t. pure_moved law _)

  known_moved : (known : Option Value) (next : Action Value) → IsMoved R next → IsMoved R (unless_known known next)
  known_moved None next moved = moved
  known_moved (Some v) next moved = pure_moved law v

  found_moved : (order : Option Ordering) (unknown other : Action (Option Bool)) → IsMoved R unknown → IsMoved R other → IsMoved R (found_or order unknown other)
  found_moved None unknown other p q = p
  found_moved (Some order) unknown other p q = if_moved law (is_eq order) _ other (pure_moved law (Some true)) q

  only_moved : (rows : List (List Value)) → IsMoved R (only_value rows)
  only_moved [] = pure_moved law Null
  only_moved (row ∷ []) = pure_moved law _
  only_moved (row ∷ (more ∷ rest)) = fail_moved law Value 1242

  formed_moved : (fs : List Agg) (rows : List (List Value)) → IsMoved R (formed fs rows)
  formed_moved [] rows = pure_moved law []
  formed_moved (f ∷ fs) rows = bind_moved law (answered _) _ (answered_moved law _) (λ v. bind_moved law (formed fs _) _ (formed_moved fs _) (λ vs. pure_moved law (v ∷ vs)))

-- ---- expressions

module _ {R : Scene → Scene → Type 0} (law : IsMove R) (world : World) (below : CallsMoved R world.below) where
  mutual
    pub value_moved : (frame : Frame) (t : Tree) → IsMoved R (value world frame t)
    value_moved frame (literal v) = capped_moved law v
    value_moved frame (name n) = needed_moved law 1054 _
    value_moved frame (column t c) = needed_moved law 1054 _
    value_moved frame (new_column c) = needed_moved law 1054 _
    value_moved frame (old_column c) = needed_moved law 1054 _
    value_moved frame (user_variable n) = capped_moved law (variable_value world.setting.context.variables n)
    value_moved frame (system_variable n) = needed_moved law 1193 _
    value_moved frame (unary op a) = bind_moved law (value world frame a) _ (value_moved frame a) (λ x. answered_moved law _)
    value_moved frame (binary op a b) =
        bind_moved law (value world frame a) _ (value_moved frame a) (λ x. bind_moved law (answered _) _ (answered_moved law _) (λ known.
        known_moved law known _ (bind_moved law (value world frame b) _ (value_moved frame b) (λ y. answered_moved law _))))
    value_moved frame (is_in negated a ts) =
        bind_moved law (value world frame a) _ (value_moved frame a) (λ x.
        bind_moved law (found_among world frame x (Some false) ts) _ (among_moved frame x (Some false) ts) (λ found. pure_moved law _))
    value_moved frame (choice arms o) = arms_moved frame arms (value_of_part world frame o) (part_moved frame o)
    value_moved frame (subquery q) = bind_moved law (rows_of_query world frame q) _ (query_moved frame q) (only_moved law)
    value_moved frame (exists q) = bind_moved law (rows_of_query world frame q) _ (query_moved frame q) (λ rows. pure_moved law _)
    value_moved frame (call n ts) = bind_moved law (values world frame ts) _ (values_moved frame ts) (λ vs. below.calls world.running n vs)
    value_moved frame (values_of c) = needed_moved law 1054 _
    value_moved frame (name_const n v) = capped_moved law v
    value_moved frame (floor_rand a) = bind_moved law draw _ (draw_moved law) (λ s1. bind_moved law (value world frame a) _ (value_moved frame a) (λ n. answered_moved law (scaled s1 n)))
    value_moved frame (built_in f ts) =
        manner_moved law (about f).manner _ _ _ (bind_moved law (values world frame ts) _ (values_moved frame ts) (function_moved law world f)) (first_moved frame ts) (if_function_moved frame ts)

    pub values_moved : (frame : Frame) (ts : Trees) → IsMoved R (values world frame ts)
    values_moved frame no_tree = pure_moved law []
    values_moved frame (tree t ts) = bind_moved law (value world frame t) _ (value_moved frame t) (λ x. bind_moved law (values world frame ts) _ (values_moved frame ts) (λ xs. pure_moved law (x ∷ xs)))

    among_moved : (frame : Frame) (x : Value) (so_far : Option Bool) (ts : Trees) → IsMoved R (found_among world frame x so_far ts)
    among_moved frame x so_far no_tree = pure_moved law so_far
    among_moved frame x so_far (tree t ts) =
        bind_moved law (value world frame t) _ (value_moved frame t) (λ y. bind_moved law (answered _) _ (answered_moved law _) (λ order.
        found_moved law order _ _ (among_moved frame x None ts) (among_moved frame x so_far ts)))

    arms_moved : (frame : Frame) (arms : Arms) (otherwise : Action Value) → IsMoved R otherwise → IsMoved R (value_of_arms world frame arms otherwise)
    arms_moved frame no_arm otherwise moved = moved
    arms_moved frame (arm c v arms) otherwise moved =
        bind_moved law (value world frame c) _ (value_moved frame c) (λ x. bind_moved law (holds x) _ (holds_moved law x) (λ is_true.
        if_moved law is_true _ _ (value_moved frame v) (arms_moved frame arms otherwise moved)))

    part_moved : (frame : Frame) (o : Part) → IsMoved R (value_of_part world frame o)
    part_moved frame no_part = pure_moved law Null
    part_moved frame (part t) = value_moved frame t

    if_function_moved : (frame : Frame) (ts : Trees) → IsMoved R (value_of_if world frame ts)
    if_function_moved frame no_tree = pure_moved law Null
    if_function_moved frame (tree c ts) =
        bind_moved law (value world frame c) _ (value_moved frame c) (λ x. bind_moved law (holds x) _ (holds_moved law x) (λ is_true. at_moved frame ts _))

    at_moved : (frame : Frame) (ts : Trees) (place : ℕ) → IsMoved R (value_at world frame ts place)
    at_moved frame no_tree place = pure_moved law Null
    at_moved frame (tree t ts) zero = value_moved frame t
    at_moved frame (tree t ts) (suc place) = at_moved frame ts place

    first_moved : (frame : Frame) (ts : Trees) → IsMoved R (first_known_of world frame ts)
    first_moved frame no_tree = pure_moved law Null
    first_moved frame (tree t ts) = bind_moved law (value world frame t) _ (value_moved frame t) (λ x. if_moved law _ _ _ (first_moved frame ts) (pure_moved law x))

    pub is_kept_moved : (frame : Frame) (o : Part) → IsMoved R (is_kept world frame o)
    is_kept_moved frame no_part = pure_moved law true
    is_kept_moved frame (part t) = bind_moved law (value world frame t) _ (value_moved frame t) (holds_moved law)

    pub order_moved : (frame : Frame) (os : Orders) → IsMoved R (order_values world frame os)
    order_moved frame no_order = pure_moved law []
    order_moved frame (order_by t down os) = bind_moved law (value world frame t) _ (value_moved frame t) (λ x. bind_moved law (order_values world frame os) _ (order_moved frame os) (λ xs. pure_moved law (x ∷ xs)))

    arguments_moved : (frame : Frame) (rest : Aggregates) → IsMoved R (argument_values world frame rest)
    arguments_moved frame no_aggregate = pure_moved law []
    arguments_moved frame (count_all rest) = bind_moved law (argument_values world frame rest) _ (arguments_moved frame rest) (λ xs. pure_moved law _)
    arguments_moved frame (aggregate f a rest) =
        bind_moved law (value world frame a) _ (value_moved frame a) (λ x. bind_moved law (argument_values world frame rest) _ (arguments_moved frame rest) (λ xs. pure_moved law (x ∷ xs)))

    shown_moved : (frame : Frame) (definition : TableDef) (what : Selected) (rows : List (List Value)) → IsMoved R (shown_rows world frame definition what rows)
    shown_moved frame definition (items ts) rows = each_moved law _ (λ row. values_moved (sees definition row frame) ts) rows
    shown_moved frame definition all_columns rows = pure_moved law rows
    shown_moved frame definition (aggregates rest) rows =
        bind_moved law (each (λ row. argument_values world (sees definition row frame) rest) rows) _ (each_moved law _ (λ row. arguments_moved (sees definition row frame) rest) rows) (λ arguments.
        bind_moved law (formed (functions_of rest) arguments) _ (formed_moved law (functions_of rest) arguments) (λ row. pure_moved law _))

    alone_moved : (frame : Frame) (what : Selected) → IsMoved R (row_alone world frame what)
    alone_moved frame (items ts) = bind_moved law (values world frame ts) _ (values_moved frame ts) (λ row. pure_moved law _)
    alone_moved frame all_columns = pure_moved law []
    alone_moved frame (aggregates rest) = pure_moved law []

    pub query_moved : (frame : Frame) (q : Query) → IsMoved R (rows_of_query world frame q)
    query_moved frame (query what no_origin) = alone_moved frame what
    query_moved frame (query what (from_table t condition os limit)) =
        bind_moved law (table_now t) _ (table_moved law t) (λ table.
        bind_moved law (kept_by (λ row. is_kept world (sees table.definition row frame) condition) table.rows) _ (kept_moved law _ (λ row. is_kept_moved (sees table.definition row frame) condition) table.rows) (λ rows.
        bind_moved law (each (λ row. order_values world (sees table.definition row frame) os >>= λ by. pure (by, row)) rows) _ (each_moved law _ (λ row. bind_moved law (order_values world (sees table.definition row frame) os) _ (order_moved (sees table.definition row frame) os) (λ by. pure_moved law _)) rows) (λ keyed.
        shown_moved frame table.definition what _)))
