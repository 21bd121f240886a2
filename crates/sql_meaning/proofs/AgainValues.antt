-- By induction over the definitions: expressions are done again with more levels of nesting and more turns.
use Rattle.std.proofs.Common.{ℕ, zero, suc, List, [], ◌∷◌, Bool, true, false, Option, Some, None}
use Rattle.std.specs.declared.cmp.Ordering.{Ordering}
use Rattle.std.specs.Ordering.{is_eq}
use Rattle.val_types.specs.declared.value.Value.{Value}
use Rattle.val_types.specs.declared.value.Value.TheVariants.{Null, Int, Text}
use Rattle.val_types.specs.declared.definitions.TableDef.{TableDef}
use Rattle.val_types.specs.declared.ops.Func.{Func}
use Rattle.val_types.specs.declared.ops.Func0.{Func0}
use Rattle.val_types.specs.declared.ops.Agg.{Agg}
use Rattle.value_rules.specs.Functions.{builtin_value}
use Rattle.value_rules.specs.Random.{scaled}
use Rattle.log_entries.specs.Variables.{variable_value}
use Rattle.sql_tree.specs.Tree.{Tree, literal, name, column, new_column, old_column, user_variable, system_variable, unary, binary, is_in, choice, subquery, exists, call, built_in, values_of, name_const, floor_rand}
use Rattle.sql_tree.specs.Tree.{Trees, no_tree, tree, Arms, no_arm, arm, Part, no_part, part, Query, query, Selected, items, all_columns, aggregates}
use Rattle.sql_tree.specs.Tree.{Aggregates, no_aggregate, count_all, aggregate, no_origin, from_table, Orders, no_order, order_by}
use Rattle.sql_tree.specs.BuiltIns.{Manner, all_arguments, first_known, chosen, about}
use Rattle.sql_meaning.specs.Scenes.{Action, ◌>>=◌, pure, answered, each, kept_by, table_now, draw, fail}
use Rattle.sql_meaning.specs.Frames.{Running, Below, World, Frame, sees, capped, Setting}
use Rattle.sql_meaning.specs.Values.{session_value, function_value, by_manner, holds, unless_known, found_or, only_value, formed, functions_of, value, values, found_among, value_of_arms, value_of_part, value_of_if, value_at, first_known_of, is_kept, order_values, argument_values, shown_rows, row_alone, rows_of_query}
use Rattle.sql_meaning.proofs.Again.{Again, bind_again, pure_again, fail_again, answered_again, needed_again, if_again, each_again, kept_again, table_again, draw_again, uuid_again}

-- what programs do one level further down is done again
pub record AgainBelow (extra : ℕ) (below below' : Below) : Type 0 where
  pub calls : (running : Running) (n : List ℕ) (vs : List Value) → Again extra (below.call running n vs) (below'.call running n vs)
  pub fires : (running : Running) (time : _) (event : _) (definition : TableDef) (new old : Option (List Value)) → Again extra (below.fire running time event definition new old) (below'.fire running time event definition new old)

abbrev pub around : Setting → Below → Running → World
around setting below running = record { setting = setting; below = below; running = running }

module _ (extra : ℕ) where
  -- ---- parts that see no tree

  pub capped_again : (v : Value) → Again extra (capped v) (capped v)
  capped_again Null = pure_again extra Null
  capped_again (Int n) = pure_again extra (Int n)
  capped_again (Text t) = answered_again extra _

  pub holds_again : (v : Value) → Again extra (holds v) (holds v)
  holds_again v = bind_again extra (answered _) (answered _) _ _ (answered_again extra _) (λ t. pure_again extra _)

  manner_again : (m : Manner) (of_all of_all' known known' choosing choosing' : Action Value) → Again extra of_all of_all' → Again extra known known' → Again extra choosing choosing'
      → Again extra (by_manner m of_all known choosing) (by_manner m of_all' known' choosing')
  manner_again all_arguments of_all of_all' known known' choosing choosing' p q r = p
  manner_again first_known of_all of_all' known known' choosing choosing' p q r = q
  manner_again chosen of_all of_all' known known' choosing choosing' p q r = r

  known_again : (known : Option Value) (next next' : Action Value) → Again extra next next' → Again extra (unless_known known next) (unless_known known next')
  known_again None next next' again = again
  known_again (Some v) next next' again = pure_again extra v

  found_again : (order : Option Ordering) (unknown unknown' other other' : Action (Option Bool)) → Again extra unknown unknown' → Again extra other other' → Again extra (found_or order unknown other) (found_or order unknown' other')
  found_again None unknown unknown' other other' p q = p
  found_again (Some order) unknown unknown' other other' p q = if_again extra (is_eq order) _ _ other other' (pure_again extra (Some true)) q

  only_again : (rows : List (List Value)) → Again extra (only_value rows) (only_value rows)
  only_again [] = pure_again extra Null
  only_again (row ∷ []) = pure_again extra _
  only_again (row ∷ (more ∷ rest)) = fail_again extra Value 1242 (fail 1242)

  formed_again : (fs : List Agg) (rows : List (List Value)) → Again extra (formed fs rows) (formed fs rows)
  formed_again [] rows = pure_again extra []
  formed_again (f ∷ fs) rows = bind_again extra (answered _) (answered _) _ _ (answered_again extra _) (λ v. bind_again extra (formed fs _) (formed fs _) _ _ (formed_again fs _) (λ vs. pure_again extra (v ∷ vs)))

  -- ---- expressions

  module _ (setting : Setting) (running : Running) (below below' : Below) (h : AgainBelow extra below below') where
    session_again : (f : Func0) → Again extra (session_value (around setting below running) f) (session_value (around setting below' running) f)
    session_again Func0.Now = pure_again extra _
    session_again Func0.UnixTimestamp = pure_again extra _
    session_again Func0.SysDate = pure_again extra _
    session_again Func0.User = capped_again (Text setting.context.user)
    session_again Func0.Uuid = uuid_again extra _
    session_again Func0.ConnectionId = pure_again extra _
    session_again Func0.LastInsertId = pure_again extra _
    session_again Func0.RowCount = pure_again extra _

    function_again : (f : Func) (vs : List Value) → Again extra (function_value (around setting below running) f vs) (function_value (around setting below' running) f vs)
    function_again (Func.Zero f) vs = session_again f
    function_again (Func.One f) vs = answered_again extra (builtin_value (Func.One f) vs)
    function_again (Func.Two f) vs = answered_again extra (builtin_value (Func.Two f) vs)
    function_again (Func.Three f) vs = answered_again extra (builtin_value (Func.Three f) vs)
    function_again (Func.Many f) vs = answered_again extra (builtin_value (Func.Many f) vs)

    mutual
      pub value_again : (frame : Frame) (t : Tree) → Again extra (value (around setting below running) frame t) (value (around setting below' running) frame t)
      value_again frame (literal v) = capped_again v
      value_again frame (name n) = needed_again extra 1054 _
      value_again frame (column t c) = needed_again extra 1054 _
      value_again frame (new_column c) = needed_again extra 1054 _
      value_again frame (old_column c) = needed_again extra 1054 _
      value_again frame (user_variable n) = capped_again (variable_value setting.context.variables n)
      value_again frame (system_variable n) = needed_again extra 1193 _
      value_again frame (unary op a) = bind_again extra (value (around setting below running) frame a) (value (around setting below' running) frame a) _ _ (value_again frame a) (λ x. answered_again extra _)
      value_again frame (binary op a b) =
          bind_again extra (value (around setting below running) frame a) (value (around setting below' running) frame a) _ _ (value_again frame a) (λ x. bind_again extra (answered _) (answered _) _ _ (answered_again extra _) (λ known.
          known_again known _ _ (bind_again extra (value (around setting below running) frame b) (value (around setting below' running) frame b) _ _ (value_again frame b) (λ y. answered_again extra _))))
      value_again frame (is_in negated a ts) =
          bind_again extra (value (around setting below running) frame a) (value (around setting below' running) frame a) _ _ (value_again frame a) (λ x.
          bind_again extra (found_among (around setting below running) frame x (Some false) ts) (found_among (around setting below' running) frame x (Some false) ts) _ _ (among_again frame x (Some false) ts) (λ found. pure_again extra _))
      value_again frame (choice arms o) = arms_again frame arms (value_of_part (around setting below running) frame o) (value_of_part (around setting below' running) frame o) (part_again frame o)
      value_again frame (subquery q) = bind_again extra (rows_of_query (around setting below running) frame q) (rows_of_query (around setting below' running) frame q) _ _ (query_again frame q) only_again
      value_again frame (exists q) = bind_again extra (rows_of_query (around setting below running) frame q) (rows_of_query (around setting below' running) frame q) _ _ (query_again frame q) (λ rows. pure_again extra _)
      value_again frame (call n ts) = bind_again extra (values (around setting below running) frame ts) (values (around setting below' running) frame ts) _ _ (values_again frame ts) (λ vs. h.calls running n vs)
      value_again frame (values_of c) = needed_again extra 1054 _
      value_again frame (name_const n v) = capped_again v
      value_again frame (floor_rand a) = bind_again extra draw draw _ _ (draw_again extra) (λ s1. bind_again extra (value (around setting below running) frame a) (value (around setting below' running) frame a) _ _ (value_again frame a) (λ n. answered_again extra (scaled s1 n)))
      value_again frame (built_in f ts) =
          manner_again (about f).manner _ _ _ _ _ _ (bind_again extra (values (around setting below running) frame ts) (values (around setting below' running) frame ts) _ _ (values_again frame ts) (function_again f)) (first_again frame ts) (if_function_again frame ts)

      pub values_again : (frame : Frame) (ts : Trees) → Again extra (values (around setting below running) frame ts) (values (around setting below' running) frame ts)
      values_again frame no_tree = pure_again extra []
      values_again frame (tree t ts) = bind_again extra (value (around setting below running) frame t) (value (around setting below' running) frame t) _ _ (value_again frame t) (λ x. bind_again extra (values (around setting below running) frame ts) (values (around setting below' running) frame ts) _ _ (values_again frame ts) (λ xs. pure_again extra (x ∷ xs)))

      among_again : (frame : Frame) (x : Value) (so_far : Option Bool) (ts : Trees) → Again extra (found_among (around setting below running) frame x so_far ts) (found_among (around setting below' running) frame x so_far ts)
      among_again frame x so_far no_tree = pure_again extra so_far
      among_again frame x so_far (tree t ts) =
          bind_again extra (value (around setting below running) frame t) (value (around setting below' running) frame t) _ _ (value_again frame t) (λ y. bind_again extra (answered _) (answered _) _ _ (answered_again extra _) (λ order.
          found_again order _ _ _ _ (among_again frame x None ts) (among_again frame x so_far ts)))

      arms_again : (frame : Frame) (arms : Arms) (otherwise otherwise' : Action Value) → Again extra otherwise otherwise' → Again extra (value_of_arms (around setting below running) frame arms otherwise) (value_of_arms (around setting below' running) frame arms otherwise')
      arms_again frame no_arm otherwise otherwise' led = led
      arms_again frame (arm c v arms) otherwise otherwise' led =
          bind_again extra (value (around setting below running) frame c) (value (around setting below' running) frame c) _ _ (value_again frame c) (λ x. bind_again extra (holds x) (holds x) _ _ (holds_again x) (λ is_true.
          if_again extra is_true _ _ _ _ (value_again frame v) (arms_again frame arms otherwise otherwise' led)))

      part_again : (frame : Frame) (o : Part) → Again extra (value_of_part (around setting below running) frame o) (value_of_part (around setting below' running) frame o)
      part_again frame no_part = pure_again extra Null
      part_again frame (part t) = value_again frame t

      if_function_again : (frame : Frame) (ts : Trees) → Again extra (value_of_if (around setting below running) frame ts) (value_of_if (around setting below' running) frame ts)
      if_function_again frame no_tree = pure_again extra Null
      if_function_again frame (tree c ts) =
          bind_again extra (value (around setting below running) frame c) (value (around setting below' running) frame c) _ _ (value_again frame c) (λ x. bind_again extra (holds x) (holds x) _ _ (holds_again x) (λ is_true. at_again frame ts _))

      at_again : (frame : Frame) (ts : Trees) (place : ℕ) → Again extra (value_at (around setting below running) frame ts place) (value_at (around setting below' running) frame ts place)
      at_again frame no_tree place = pure_again extra Null
      at_again frame (tree t ts) zero = value_again frame t
      at_again frame (tree t ts) (suc place) = at_again frame ts place

      first_again : (frame : Frame) (ts : Trees) → Again extra (first_known_of (around setting below running) frame ts) (first_known_of (around setting below' running) frame ts)
      first_again frame no_tree = pure_again extra Null
      first_again frame (tree t ts) = bind_again extra (value (around setting below running) frame t) (value (around setting below' running) frame t) _ _ (value_again frame t) (λ x. if_again extra _ _ _ _ _ (first_again frame ts) (pure_again extra x))

      pub is_kept_again : (frame : Frame) (o : Part) → Again extra (is_kept (around setting below running) frame o) (is_kept (around setting below' running) frame o)
      is_kept_again frame no_part = pure_again extra true
      is_kept_again frame (part t) = bind_again extra (value (around setting below running) frame t) (value (around setting below' running) frame t) _ _ (value_again frame t) holds_again

      pub order_again : (frame : Frame) (os : Orders) → Again extra (order_values (around setting below running) frame os) (order_values (around setting below' running) frame os)
      order_again frame no_order = pure_again extra []
      order_again frame (order_by t down os) = bind_again extra (value (around setting below running) frame t) (value (around setting below' running) frame t) _ _ (value_again frame t) (λ x. bind_again extra (order_values (around setting below running) frame os) (order_values (around setting below' running) frame os) _ _ (order_again frame os) (λ xs. pure_again extra (x ∷ xs)))

      arguments_again : (frame : Frame) (rest : Aggregates) → Again extra (argument_values (around setting below running) frame rest) (argument_values (around setting below' running) frame rest)
      arguments_again frame no_aggregate = pure_again extra []
      arguments_again frame (count_all rest) = bind_again extra (argument_values (around setting below running) frame rest) (argument_values (around setting below' running) frame rest) _ _ (arguments_again frame rest) (λ xs. pure_again extra _)
      arguments_again frame (aggregate f a rest) =
          bind_again extra (value (around setting below running) frame a) (value (around setting below' running) frame a) _ _ (value_again frame a) (λ x. bind_again extra (argument_values (around setting below running) frame rest) (argument_values (around setting below' running) frame rest) _ _ (arguments_again frame rest) (λ xs. pure_again extra (x ∷ xs)))

      shown_again : (frame : Frame) (definition : TableDef) (what : Selected) (rows : List (List Value)) → Again extra (shown_rows (around setting below running) frame definition what rows) (shown_rows (around setting below' running) frame definition what rows)
      shown_again frame definition (items ts) rows = each_again extra _ _ (λ row. values_again (sees definition row frame) ts) rows
      shown_again frame definition all_columns rows = pure_again extra rows
      shown_again frame definition (aggregates rest) rows =
          bind_again extra (each (λ row. argument_values (around setting below running) (sees definition row frame) rest) rows) (each (λ row. argument_values (around setting below' running) (sees definition row frame) rest) rows) _ _ (each_again extra _ _ (λ row. arguments_again (sees definition row frame) rest) rows) (λ arguments.
          bind_again extra (formed (functions_of rest) arguments) (formed (functions_of rest) arguments) _ _ (formed_again (functions_of rest) arguments) (λ row. pure_again extra _))

      alone_again : (frame : Frame) (what : Selected) → Again extra (row_alone (around setting below running) frame what) (row_alone (around setting below' running) frame what)
      alone_again frame (items ts) = bind_again extra (values (around setting below running) frame ts) (values (around setting below' running) frame ts) _ _ (values_again frame ts) (λ row. pure_again extra _)
      alone_again frame all_columns = pure_again extra []
      alone_again frame (aggregates rest) = pure_again extra []

      pub query_again : (frame : Frame) (q : Query) → Again extra (rows_of_query (around setting below running) frame q) (rows_of_query (around setting below' running) frame q)
      query_again frame (query what no_origin) = alone_again frame what
      query_again frame (query what (from_table t condition os limit)) =
          bind_again extra (table_now t) (table_now t) _ _ (table_again extra t) (λ table.
          bind_again extra (kept_by (λ row. is_kept (around setting below running) (sees table.definition row frame) condition) table.rows) (kept_by (λ row. is_kept (around setting below' running) (sees table.definition row frame) condition) table.rows) _ _ (kept_again extra _ _ (λ row. is_kept_again (sees table.definition row frame) condition) table.rows) (λ rows.
          bind_again extra (each (λ row. order_values (around setting below running) (sees table.definition row frame) os >>= λ by. pure (by, row)) rows) (each (λ row. order_values (around setting below' running) (sees table.definition row frame) os >>= λ by. pure (by, row)) rows) _ _ (each_again extra _ _ (λ row. bind_again extra (order_values (around setting below running) (sees table.definition row frame) os) (order_values (around setting below' running) (sees table.definition row frame) os) _ _ (order_again (sees table.definition row frame) os) (λ by. pure_again extra _)) rows) (λ keyed.
          shown_again frame table.definition what _)))
