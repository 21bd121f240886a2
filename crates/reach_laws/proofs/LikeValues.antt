-- By induction over the definitions: expressions are alike, where what they reach is.
use Rattle.std.proofs.Common.{ℕ, zero, suc, List, [], ◌∷◌, ◌++◌, Bool, true, false, Option, Some, None, pos, ℤ, sym, ap, subst}
use Rattle.std.specs.declared.cmp.Ordering.{Ordering}
use Rattle.std.specs.Ordering.{is_eq}
use Rattle.std.specs.List.{AllByRecursion}
use Rattle.val_types.specs.declared.value.Value.{Value}
use Rattle.val_types.specs.declared.value.Value.TheVariants.{Null, Int, Text}
use Rattle.val_types.specs.declared.definitions.TableDef.{TableDef}
use Rattle.val_types.specs.declared.ops.Func.{Func}
use Rattle.val_types.specs.declared.ops.Func0.{Func0}
use Rattle.val_types.specs.declared.ops.Agg.{Agg}
use Rattle.value_rules.specs.Functions.{builtin_value}
use Rattle.value_rules.specs.Moments.{moment_text}
use Rattle.value_rules.specs.Random.{scaled}
use Rattle.sql_reach.specs.log_entries.Variables.{variable_value}
use Rattle.sql_tree.specs.Tree.{Tree, literal, name, column, new_column, old_column, user_variable, system_variable, unary, binary, is_in, choice, subquery, exists, call, built_in, values_of, name_const, floor_rand}
use Rattle.sql_tree.specs.Tree.{Trees, no_tree, tree, Arms, no_arm, arm, Part, no_part, part, Query, query, Selected, items, all_columns, aggregates}
use Rattle.sql_tree.specs.Tree.{Aggregates, no_aggregate, count_all, aggregate, no_origin, from_table, Orders, no_order, order_by}
use Rattle.sql_tree.specs.BuiltIns.{Manner, all_arguments, first_known, chosen, about}
use Rattle.sql_reach.specs.catalog_rules.Nodes.{Node, Sight, a_user_variable, a_system_variable, a_built_in, in_sight, count_of_trees, limit_nodes, nodes_of_tree, nodes_of_trees, nodes_of_arms, nodes_of_part, nodes_of_query, nodes_of_selected, nodes_of_aggregates, nodes_of_origin, nodes_of_orders}
use Rattle.sql_reach.specs.sql_meaning.Scenes.{Action, ◌>>=◌, pure, answered, needed, each, kept_by, table_now, draw, next_uuid}
use Rattle.sql_reach.specs.sql_meaning.Frames.{Running, Below, World, Frame, sees, capped, Setting}
use Rattle.sql_reach.specs.sql_meaning.Values.{system_value, session_value, function_value, by_manner, holds, unless_known, found_or, only_value, formed, functions_of, value, values, found_among, value_of_arms, value_of_part, value_of_if, value_at, first_known_of, is_kept, order_values, argument_values, shown_rows, row_alone, rows_of_query}
use Rattle.reach_laws.proofs.Members.{both}
use Rattle.reach_laws.proofs.Reaching.{IsReach, LikeBelow}
use Rattle.reach_laws.proofs.Like.{IsLikeness, bind_like, pure_like, pure_same, fail_like, answered_like, needed_like, if_like, every_like, kept_like, table_like}

abbrev pub around : Setting → Below → Running → World
around setting below running = record { setting = setting; below = below; running = running }

module _ {P : (A : Type 0) → Action A → Action A → Type 0} {random exact changing : Type 0} {Known : List ℕ → TableDef → Type 0} (law : IsLikeness P random exact changing Known) where
  -- ---- parts that see no tree

  pub capped_like : (v : Value) → P _ (capped v) (capped v)
  capped_like Null = pure_like law Null
  capped_like (Int n) = pure_like law (Int n)
  capped_like (Text t) = answered_like law _

  pub holds_like : (v : Value) → P _ (holds v) (holds v)
  holds_like v = bind_like law (answered _) (answered _) _ _ (answered_like law _) (λ t. pure_like law _)

  manner_like : (m : Manner) (of_all of_all' known known' choosing choosing' : Action Value) → P _ of_all of_all' → P _ known known'
      → P _ choosing choosing' → P _ (by_manner m of_all known choosing) (by_manner m of_all' known' choosing')
  manner_like all_arguments of_all of_all' known known' choosing choosing' p q r = p
  manner_like first_known of_all of_all' known known' choosing choosing' p q r = q
  manner_like chosen of_all of_all' known known' choosing choosing' p q r = r

  known_like : (known : Option Value) (next next' : Action Value) → P _ next next' → P _ (unless_known known next) (unless_known known next')
  known_like None next next' like = like
  known_like (Some v) next next' alike = pure_like law v

  found_like : (order : Option Ordering) (unknown unknown' other other' : Action (Option Bool)) → P _ unknown unknown' → P _ other other' → P _ (found_or order unknown other) (found_or order unknown' other')
  found_like None unknown unknown' other other' p q = p
  found_like (Some order) unknown unknown' other other' p q = if_like law (is_eq order) _ _ other other' (pure_like law (Some true)) q

  only_like : (rows : List (List Value)) → P _ (only_value rows) (only_value rows)
  only_like [] = pure_like law Null
  only_like (row ∷ []) = pure_like law _
  only_like (row ∷ (more ∷ rest)) = fail_like law Value 1242

  formed_like : (fs : List Agg) (rows : List (List Value)) → P _ (formed fs rows) (formed fs rows)
  formed_like [] rows = pure_like law []
  formed_like (f ∷ fs) rows = bind_like law (answered _) (answered _) _ _ (answered_like law _) (λ v. bind_like law (formed fs _) (formed fs _) _ _ (formed_like fs _) (λ vs. pure_like law (v ∷ vs)))

-- ---- expressions

module _ {P : (A : Type 0) → Action A → Action A → Type 0} {random exact changing : Type 0} {Known : List ℕ → TableDef → Type 0} (law : IsLikeness P random exact changing Known)
    (setting setting' : Setting) (reached : Node → Type 0) (reach : IsReach random exact changing Known setting setting' reached)
    (running : Running) (below below' : Below) (h : LikeBelow P setting setting' reached below below') where
  abbrev Same : {A : Type 0} → Action A → Action A → Type 0
  Same {A = A} m m' = P A m m'

  abbrev All : List Node → Type 0
  All ns = AllByRecursion reached ns

  abbrev one : World
  one = around setting below running

  abbrev other : World
  other = around setting' below' running

  session_like : (f : Func0) → reached (a_built_in (Func.Zero f)) → Same (session_value one f) (session_value other f)
  session_like Func0.Now r = pure_same law _ _ (ap (λ (n : ℕ). Text (moment_text n)) (reach.same (a_built_in (Func.Zero Func0.Now)) r))
  session_like Func0.UnixTimestamp r = pure_same law _ _ (ap (λ (n : ℕ). Int (pos n)) (reach.same (a_built_in (Func.Zero Func0.UnixTimestamp)) r))
  session_like Func0.SysDate r = pure_same law _ _ (ap (λ (n : ℕ). Text (moment_text n)) (reach.same (a_built_in (Func.Zero Func0.SysDate)) r))
  session_like Func0.User r =
      subst (λ (u : List ℕ). Same (capped (Text setting.context.user)) (capped (Text u))) (sym (reach.same (a_built_in (Func.Zero Func0.User)) r)) (capped_like law (Text setting.context.user))
  session_like Func0.Uuid r =
      subst (λ (n : ℕ). Same (next_uuid setting.uuid) (next_uuid n)) (sym (reach.same (a_built_in (Func.Zero Func0.Uuid)) r)) (law.uuid (reach.uuids r) setting.uuid)
  session_like Func0.ConnectionId r = pure_same law _ _ (ap (λ (n : ℕ). Int (pos n)) (reach.same (a_built_in (Func.Zero Func0.ConnectionId)) r))
  session_like Func0.LastInsertId r = pure_same law _ _ (ap (λ (n : ℤ). Int n) (reach.same (a_built_in (Func.Zero Func0.LastInsertId)) r))
  session_like Func0.RowCount r = pure_same law _ _ (ap (λ (n : ℤ). Int n) (reach.same (a_built_in (Func.Zero Func0.RowCount)) r))

  function_like : (f : Func) → reached (a_built_in f) → (vs : List Value) → Same (function_value one f vs) (function_value other f vs)
  function_like (Func.Zero f) r vs = session_like f r
  function_like (Func.One f) r vs = answered_like law (builtin_value (Func.One f) vs)
  function_like (Func.Two f) r vs = answered_like law (builtin_value (Func.Two f) vs)
  function_like (Func.Three f) r vs = answered_like law (builtin_value (Func.Three f) vs)
  function_like (Func.Many f) r vs = answered_like law (builtin_value (Func.Many f) vs)

  mutual
    pub value_like : (frame : Frame) (sight : Sight) (t : Tree) → All (nodes_of_tree t sight) → Same (value one frame t) (value other frame t)
    value_like frame sight (literal v) n = capped_like law v
    value_like frame sight (name x) n = needed_like law 1054 _
    value_like frame sight (column t c) n = needed_like law 1054 _
    value_like frame sight (new_column c) n = needed_like law 1054 _
    value_like frame sight (old_column c) n = needed_like law 1054 _
    value_like frame sight (user_variable x) n =
        subst (λ (v : Value). Same (capped (variable_value setting.context.variables x)) (capped v)) (sym (reach.same (a_user_variable x) n.0)) (capped_like law (variable_value setting.context.variables x))
    value_like frame sight (system_variable x) n =
        subst (λ (o : Option Value). Same (needed 1193 (system_value setting.context x)) (needed 1193 o)) (sym (reach.same (a_system_variable x) n.0)) (needed_like law 1193 (system_value setting.context x))
    value_like frame sight (unary op a) n = bind_like law (value one frame a) (value other frame a) _ _ (value_like frame sight a n) (λ x. answered_like law _)
    value_like frame sight (binary op a b) n =
        let p = both reached (nodes_of_tree a sight) (nodes_of_tree b sight) n in
        bind_like law (value one frame a) (value other frame a) _ _ (value_like frame sight a p.0) (λ x. bind_like law (answered _) (answered _) _ _ (answered_like law _) (λ known.
        known_like law known _ _ (bind_like law (value one frame b) (value other frame b) _ _ (value_like frame sight b p.1) (λ y. answered_like law _))))
    value_like frame sight (is_in negated a ts) n =
        let p = both reached (nodes_of_tree a sight) (nodes_of_trees ts sight) n in
        bind_like law (value one frame a) (value other frame a) _ _ (value_like frame sight a p.0) (λ x.
        bind_like law (found_among one frame x (Some false) ts) (found_among other frame x (Some false) ts) _ _ (among_like frame sight x (Some false) ts p.1) (λ found. pure_like law _))
    value_like frame sight (choice arms o) n =
        let p = both reached (nodes_of_arms arms sight) (nodes_of_part o sight) n in
        arms_like frame sight arms (value_of_part one frame o) (value_of_part other frame o) p.0 (part_like frame sight o p.1)
    value_like frame sight (subquery q) n = bind_like law (rows_of_query one frame q) (rows_of_query other frame q) _ _ (query_like frame sight q n) (only_like law)
    value_like frame sight (exists q) n = bind_like law (rows_of_query one frame q) (rows_of_query other frame q) _ _ (query_like frame sight q n) (λ rows. pure_like law _)
    value_like frame sight (call f ts) n = bind_like law (values one frame ts) (values other frame ts) _ _ (values_like frame sight ts n.1) (λ vs. h.calls running f (count_of_trees ts) vs n.0)
    value_like frame sight (values_of c) n = needed_like law 1054 _
    value_like frame sight (name_const x v) n = capped_like law v
    value_like frame sight (floor_rand a) n = bind_like law draw draw _ _ (law.drawn (reach.draws n.0)) (λ s1. bind_like law (value one frame a) (value other frame a) _ _ (value_like frame sight a n.1) (λ m. answered_like law (scaled s1 m)))
    value_like frame sight (built_in f ts) n =
        manner_like law (about f).manner _ _ _ _ _ _
        (bind_like law (values one frame ts) (values other frame ts) _ _ (values_like frame sight ts n.1) (function_like f n.0))
        (first_like frame sight ts n.1) (if_function_like frame sight ts n.1)

    pub values_like : (frame : Frame) (sight : Sight) (ts : Trees) → All (nodes_of_trees ts sight) → Same (values one frame ts) (values other frame ts)
    values_like frame sight no_tree n = pure_like law []
    values_like frame sight (tree t ts) n =
        let p = both reached (nodes_of_tree t sight) (nodes_of_trees ts sight) n in
        bind_like law (value one frame t) (value other frame t) _ _ (value_like frame sight t p.0) (λ x. bind_like law (values one frame ts) (values other frame ts) _ _ (values_like frame sight ts p.1) (λ xs. pure_like law (x ∷ xs)))

    among_like : (frame : Frame) (sight : Sight) (x : Value) (so_far : Option Bool) (ts : Trees) → All (nodes_of_trees ts sight) → Same (found_among one frame x so_far ts) (found_among other frame x so_far ts)
    among_like frame sight x so_far no_tree n = pure_like law so_far
    among_like frame sight x so_far (tree t ts) n =
        let p = both reached (nodes_of_tree t sight) (nodes_of_trees ts sight) n in
        bind_like law (value one frame t) (value other frame t) _ _ (value_like frame sight t p.0) (λ y. bind_like law (answered _) (answered _) _ _ (answered_like law _) (λ order.
        found_like law order _ _ _ _ (among_like frame sight x None ts p.1) (among_like frame sight x so_far ts p.1)))

    arms_like : (frame : Frame) (sight : Sight) (arms : Arms) (otherwise otherwise' : Action Value) → All (nodes_of_arms arms sight) → Same otherwise otherwise' → Same (value_of_arms one frame arms otherwise) (value_of_arms other frame arms otherwise')
    arms_like frame sight no_arm otherwise otherwise' n rest = rest
    arms_like frame sight (arm c v arms) otherwise otherwise' n rest =
        let p = both reached (nodes_of_tree c sight ++ nodes_of_tree v sight) (nodes_of_arms arms sight) n in
        let q = both reached (nodes_of_tree c sight) (nodes_of_tree v sight) p.0 in
        bind_like law (value one frame c) (value other frame c) _ _ (value_like frame sight c q.0) (λ x. bind_like law (holds x) (holds x) _ _ (holds_like law x) (λ is_true.
        if_like law is_true _ _ _ _ (value_like frame sight v q.1) (arms_like frame sight arms otherwise otherwise' p.1 rest)))

    part_like : (frame : Frame) (sight : Sight) (o : Part) → All (nodes_of_part o sight) → Same (value_of_part one frame o) (value_of_part other frame o)
    part_like frame sight no_part n = pure_like law Null
    part_like frame sight (part t) n = value_like frame sight t n

    if_function_like : (frame : Frame) (sight : Sight) (ts : Trees) → All (nodes_of_trees ts sight) → Same (value_of_if one frame ts) (value_of_if other frame ts)
    if_function_like frame sight no_tree n = pure_like law Null
    if_function_like frame sight (tree c ts) n =
        let p = both reached (nodes_of_tree c sight) (nodes_of_trees ts sight) n in
        bind_like law (value one frame c) (value other frame c) _ _ (value_like frame sight c p.0) (λ x. bind_like law (holds x) (holds x) _ _ (holds_like law x) (λ is_true. at_like frame sight ts _ p.1))

    at_like : (frame : Frame) (sight : Sight) (ts : Trees) (place : ℕ) → All (nodes_of_trees ts sight) → Same (value_at one frame ts place) (value_at other frame ts place)
    at_like frame sight no_tree place n = pure_like law Null
    at_like frame sight (tree t ts) zero n = value_like frame sight t (both reached (nodes_of_tree t sight) (nodes_of_trees ts sight) n).0
    at_like frame sight (tree t ts) (suc place) n = at_like frame sight ts place (both reached (nodes_of_tree t sight) (nodes_of_trees ts sight) n).1

    first_like : (frame : Frame) (sight : Sight) (ts : Trees) → All (nodes_of_trees ts sight) → Same (first_known_of one frame ts) (first_known_of other frame ts)
    first_like frame sight no_tree n = pure_like law Null
    first_like frame sight (tree t ts) n =
        let p = both reached (nodes_of_tree t sight) (nodes_of_trees ts sight) n in
        bind_like law (value one frame t) (value other frame t) _ _ (value_like frame sight t p.0) (λ x. if_like law _ _ _ _ _ (first_like frame sight ts p.1) (pure_like law x))

    pub is_kept_like : (frame : Frame) (sight : Sight) (o : Part) → All (nodes_of_part o sight) → Same (is_kept one frame o) (is_kept other frame o)
    is_kept_like frame sight no_part n = pure_like law true
    is_kept_like frame sight (part t) n = bind_like law (value one frame t) (value other frame t) _ _ (value_like frame sight t n) (holds_like law)

    pub order_like : (frame : Frame) (sight : Sight) (os : Orders) → All (nodes_of_orders os sight) → Same (order_values one frame os) (order_values other frame os)
    order_like frame sight no_order n = pure_like law []
    order_like frame sight (order_by t down os) n =
        let p = both reached (nodes_of_tree t sight) (nodes_of_orders os sight) n in
        bind_like law (value one frame t) (value other frame t) _ _ (value_like frame sight t p.0) (λ x. bind_like law (order_values one frame os) (order_values other frame os) _ _ (order_like frame sight os p.1) (λ xs. pure_like law (x ∷ xs)))

    arguments_like : (frame : Frame) (sight : Sight) (rest : Aggregates) → All (nodes_of_aggregates rest sight) → Same (argument_values one frame rest) (argument_values other frame rest)
    arguments_like frame sight no_aggregate n = pure_like law []
    arguments_like frame sight (count_all rest) n = bind_like law (argument_values one frame rest) (argument_values other frame rest) _ _ (arguments_like frame sight rest n) (λ xs. pure_like law _)
    arguments_like frame sight (aggregate f a rest) n =
        let p = both reached (nodes_of_tree a sight) (nodes_of_aggregates rest sight) n in
        bind_like law (value one frame a) (value other frame a) _ _ (value_like frame sight a p.0) (λ x. bind_like law (argument_values one frame rest) (argument_values other frame rest) _ _ (arguments_like frame sight rest p.1) (λ xs. pure_like law (x ∷ xs)))

    shown_like : (frame : Frame) (sight : Sight) (definition : TableDef) (what : Selected) (rows : List (List Value)) → All (nodes_of_selected what sight) → Same (shown_rows one frame definition what rows) (shown_rows other frame definition what rows)
    shown_like frame sight definition (items ts) rows n = every_like law _ _ (λ row. values_like (sees definition row frame) sight ts n) rows
    shown_like frame sight definition all_columns rows n = pure_like law rows
    shown_like frame sight definition (aggregates rest) rows n =
        bind_like law (each (λ row. argument_values one (sees definition row frame) rest) rows) (each (λ row. argument_values other (sees definition row frame) rest) rows) _ _ (every_like law _ _ (λ row. arguments_like (sees definition row frame) sight rest n) rows) (λ arguments.
        bind_like law (formed (functions_of rest) arguments) (formed (functions_of rest) arguments) _ _ (formed_like law (functions_of rest) arguments) (λ row. pure_like law _))

    alone_like : (frame : Frame) (sight : Sight) (what : Selected) → All (nodes_of_selected what sight) → Same (row_alone one frame what) (row_alone other frame what)
    alone_like frame sight (items ts) n = bind_like law (values one frame ts) (values other frame ts) _ _ (values_like frame sight ts n) (λ row. pure_like law _)
    alone_like frame sight all_columns n = pure_like law []
    alone_like frame sight (aggregates rest) n = pure_like law []

    pub query_like : (frame : Frame) (sight : Sight) (q : Query) → All (nodes_of_query q sight) → Same (rows_of_query one frame q) (rows_of_query other frame q)
    query_like frame sight (query what no_origin) n = alone_like frame sight what (both reached (nodes_of_selected what sight) [] n).0
    query_like frame sight (query what (from_table t condition os limit)) n =
        let inner : Sight = in_sight t sight in
        let p = both reached (nodes_of_selected what inner) (nodes_of_origin (from_table t condition os limit) sight) n in
        let q = both reached (nodes_of_part condition inner ++ nodes_of_orders os inner) (limit_nodes limit) p.1.1 in
        let r = both reached (nodes_of_part condition inner) (nodes_of_orders os inner) q.0 in
        bind_like law (table_now t) (table_now t) _ _ (table_like law t) (λ table.
        bind_like law (kept_by (λ row. is_kept one (sees table.definition row frame) condition) table.rows) (kept_by (λ row. is_kept other (sees table.definition row frame) condition) table.rows) _ _ (kept_like law _ _ (λ row. is_kept_like (sees table.definition row frame) inner condition r.0) table.rows) (λ rows.
        bind_like law (each (λ row. order_values one (sees table.definition row frame) os >>= λ by. pure (by, row)) rows) (each (λ row. order_values other (sees table.definition row frame) os >>= λ by. pure (by, row)) rows) _ _ (every_like law _ _ (λ row. bind_like law (order_values one (sees table.definition row frame) os) (order_values other (sees table.definition row frame) os) _ _ (order_like (sees table.definition row frame) inner os r.1) (λ by. pure_like law _)) rows) (λ keyed.
        shown_like frame inner table.definition what _ p.0)))
