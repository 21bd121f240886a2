-- Expressions and SELECTs with locals closed in have the values without locals that they have with them.
use Rattle.std.proofs.Common.{◌≡◌, ℕ, zero, suc, List, [], ◌∷◌, Bool, true, false, cond, Option, Some, None, refl}
use Rattle.std.specs.Prelude.{if◌then◌else◌, nat_eq, pos, unwrap_or}
use Rattle.std.specs.List.{list_all}
use Rattle.std.specs.Option.{option_map, option_map_or, option_and_then}
use Rattle.std.specs.Cmp.Lexicographic.{pointwise}
use Rattle.std.proofs.lemmas.Bool.{and_parts}
use Rattle.val_types.specs.declared.value.Value.{Value}
use Rattle.val_types.specs.declared.value.Value.TheVariants.{Null, Int, Text}
use Rattle.val_types.specs.declared.definitions.TableDef.{TableDef}
use Rattle.val_types.specs.declared.ops.Agg.{Agg}
use Rattle.val_types.specs.Fitting.{is_null}
use Rattle.value_rules.specs.Operators.{truth_value, comparison, decided, binary_value, unary_value}
use Rattle.value_rules.specs.Random.{scaled}
use Rattle.value_rules.specs.Selecting.{cut}
use Rattle.sql_tree.specs.Tree.{Tree, literal, name, column, new_column, old_column, user_variable, system_variable, unary, binary, is_in, choice, subquery, exists, call, built_in, values_of, name_const, floor_rand}
use Rattle.sql_tree.specs.Tree.{Trees, no_tree, tree, Arms, no_arm, arm, Part, no_part, part, Query, query, Selected, items, all_columns, aggregates}
use Rattle.sql_tree.specs.Tree.{Aggregates, no_aggregate, count_all, aggregate, no_origin, from_table, Orders, no_order, order_by}
use Rattle.sql_tree.specs.declared.expressions.Count.{Count}
use Rattle.sql_tree.specs.declared.expressions.Count.TheVariants as counts
use Rattle.sql_tree.specs.declared.expressions.Limit.{Limit}
use Rattle.sql_locals.specs.Locals.{find_from, find_local}
use Rattle.sql_locals.specs.declared.locals.Local.{Local}
use Rattle.sql_tree.specs.BuiltIns.{about}
use Rattle.sql_reach.specs.sql_meaning.Scenes.{Action, ◌>>=◌, pure, answered, needed, each, kept_by, table_now, draw}
use Rattle.sql_reach.specs.sql_meaning.Frames.{World, Frame, sees, column_in_view, number_or_none, count_value, limited, limited_to, capped}
use Rattle.sql_reach.specs.sql_meaning.Values.{function_value, by_manner, holds, unless_known, found_or, membership, only_value, has_rows, sorted, directions, functions_of, formed, value, values, found_among, value_of_arms, value_of_part, value_of_if, value_at, first_known_of, is_kept, order_values, argument_values, shown_rows, row_alone, rows_of_query}
use Rattle.sql_reach.specs.Closing.{limit_mapped, tree_mapped, trees_mapped, arms_mapped, part_mapped, query_mapped, selected_mapped, aggregates_mapped, orders_mapped, const_if, closed_name, number_if, closed_by, closed_count}
use Rattle.name_const_laws.specs.Laws.{is_short, holds_short}

-- ---- the local of a name

abbrev short_if : Option Local → Bool
short_if None = true
short_if (Some l) = holds_short l

either_short : (b : Bool) (l : Local) (found : Option Local) → holds_short l ≡ true → short_if found ≡ true → short_if (cond b (Some l) found) ≡ true
either_short true l found e f = e
either_short false l found e f = f

found_short : (found : Option Local) (ls : List Local) (n : List ℕ) → short_if found ≡ true → list_all holds_short ls ≡ true → short_if (find_from found ls n) ≡ true
found_short found [] n f e = f
found_short found (l ∷ ls) n f e =
    let same = pointwise nat_eq l.name n in
    found_short (cond same (Some l) found) ls n (either_short same l found (and_parts (holds_short l) (list_all holds_short ls) e).0 f) (and_parts (holds_short l) (list_all holds_short ls) e).1

-- ---- frames

-- a frame with other locals
abbrev pub with_locals : List Local → Frame → Frame
with_locals locals frame = record frame { locals = locals }

-- a short value is given as it is
capped_short : (v : Value) → is_short v ≡ true → capped v ≡ pure v
capped_short Null e = refl
capped_short (Int n) e = refl
capped_short (Text t) e = rw e refl

const_value : (world : World) (frame : Frame) (n : List ℕ) (o : Option Local) → short_if o ≡ true
    → value world (with_locals [] frame) (const_if n o) ≡ needed 1054 (elim o [ None ↦ column_in_view n frame.views | Some l ↦ Some l.value ])
const_value world frame n None e = refl
const_value world frame n (Some l) e = capped_short l.value e

-- ---- LIMIT

number_value : (n : List ℕ) (o : Option ℕ) → count_value [] (number_if (counts.Name n) o) ≡ unwrap_or o 0
number_value n None = refl
number_value n (Some k) = refl

by_value : (n : List ℕ) (o : Option Local) → count_value [] (closed_by (counts.Name n) o) ≡ unwrap_or (option_and_then (λ (l : Local). number_or_none l.value) o) 0
by_value n None = refl
by_value n (Some l) = number_value n (number_or_none l.value)

count_closed : (locals : List Local) (c : Count) → count_value [] (closed_count locals c) ≡ count_value locals c
count_closed locals (counts.Number n) = refl
count_closed locals (counts.Name n) = by_value n (find_local locals n)

offset_closed : (locals : List Local) (o : Option Count) → option_map_or (count_value []) (option_map (closed_count locals) o) 0 ≡ option_map_or (count_value locals) o 0
offset_closed locals None = refl
offset_closed locals (Some c) = count_closed locals c

limited_closed : {A : Type 0} (locals : List Local) (l : Option Limit) (rows : List A) → limited [] (option_map (limit_mapped (closed_name locals) (closed_count locals)) l) rows ≡ limited locals l rows
limited_closed locals None rows = refl
limited_closed locals (Some l) rows = λ i. cut (offset_closed locals l.offset i) (count_closed locals l.count i) rows

pub limited_to_closed : {A : Type 0} (locals : List Local) (c : Option Count) (rows : List A) → limited_to [] (option_map (closed_count locals) c) rows ≡ limited_to locals c rows
limited_to_closed locals None rows = refl
limited_to_closed locals (Some c) rows = λ i. cut 0 (count_closed locals c i) rows

-- ---- expressions

module _ (locals : List Local) (short : list_all holds_short locals ≡ true) where
  abbrev closed_tree : Tree → Tree
  closed_tree t = tree_mapped (closed_name locals) (closed_count locals) t

  abbrev closed_trees : Trees → Trees
  closed_trees ts = trees_mapped (closed_name locals) (closed_count locals) ts

  name_closed : (world : World) (frame : Frame) (n : List ℕ) → value world (with_locals [] frame) (closed_name locals n) ≡ value world (with_locals locals frame) (name n)
  name_closed world frame n = const_value world frame n (find_local locals n) (found_short None locals n refl short)

  pub directions_closed : (os : Orders) → directions (orders_mapped (closed_name locals) (closed_count locals) os) ≡ directions os
  directions_closed no_order = refl
  directions_closed (order_by t down os) = λ i. down ∷ directions_closed os i

  functions_closed : (rest : Aggregates) → functions_of (aggregates_mapped (closed_name locals) (closed_count locals) rest) ≡ functions_of rest
  functions_closed no_aggregate = refl
  functions_closed (count_all rest) = λ i. Agg.Count ∷ functions_closed rest i
  functions_closed (aggregate f a rest) = λ i. f ∷ functions_closed rest i

  mutual
    pub value_closed : (world : World) (frame : Frame) (t : Tree) → value world (with_locals [] frame) (closed_tree t) ≡ value world (with_locals locals frame) t
    value_closed world frame (literal v) = refl
    value_closed world frame (name n) = name_closed world frame n
    value_closed world frame (column t c) = refl
    value_closed world frame (new_column c) = refl
    value_closed world frame (old_column c) = refl
    value_closed world frame (user_variable n) = refl
    value_closed world frame (system_variable n) = refl
    value_closed world frame (unary op a) = λ i. value_closed world frame a i >>= λ x. answered (unary_value op x)
    value_closed world frame (binary op a b) =
        λ i. value_closed world frame a i >>= λ x. answered (decided op x) >>= λ known.
        unless_known known (value_closed world frame b i >>= λ y. answered (binary_value op x y))
    value_closed world frame (is_in negated a ts) =
        λ i. value_closed world frame a i >>= λ x. among_closed world frame x (Some false) ts i >>= λ found. pure (membership negated found)
    value_closed world frame (choice arms o) = arms_closed world frame arms _ _ (part_closed world frame o)
    value_closed world frame (subquery q) = λ i. query_closed world frame q i >>= only_value
    value_closed world frame (exists q) = λ i. query_closed world frame q i >>= λ rows. pure (truth_value (has_rows rows))
    value_closed world frame (call n ts) = λ i. values_closed world frame ts i >>= world.below.call world.running n
    value_closed world frame (values_of c) = refl
    value_closed world frame (name_const n v) = refl
    value_closed world frame (floor_rand a) = λ i. draw >>= λ s1. value_closed world frame a i >>= λ n. answered (scaled s1 n)
    value_closed world frame (built_in f ts) =
        λ i. by_manner (about f).manner (values_closed world frame ts i >>= function_value world f) (first_closed world frame ts i) (if_closed world frame ts i)

    pub values_closed : (world : World) (frame : Frame) (ts : Trees) → values world (with_locals [] frame) (closed_trees ts) ≡ values world (with_locals locals frame) ts
    values_closed world frame no_tree = refl
    values_closed world frame (tree t ts) = λ i. value_closed world frame t i >>= λ x. values_closed world frame ts i >>= λ xs. pure (x ∷ xs)

    among_closed : (world : World) (frame : Frame) (x : Value) (so_far : Option Bool) (ts : Trees) → found_among world (with_locals [] frame) x so_far (closed_trees ts) ≡ found_among world (with_locals locals frame) x so_far ts
    among_closed world frame x so_far no_tree = refl
    among_closed world frame x so_far (tree t ts) =
        λ i. value_closed world frame t i >>= λ y. answered (comparison x y) >>= λ order.
        found_or order (among_closed world frame x None ts i) (among_closed world frame x so_far ts i)

    arms_closed : (world : World) (frame : Frame) (arms : Arms) (otherwise otherwise' : Action Value) → otherwise ≡ otherwise'
        → value_of_arms world (with_locals [] frame) (arms_mapped (closed_name locals) (closed_count locals) arms) otherwise ≡ value_of_arms world (with_locals locals frame) arms otherwise'
    arms_closed world frame no_arm otherwise otherwise' e = e
    arms_closed world frame (arm c v arms) otherwise otherwise' e =
        λ i. value_closed world frame c i >>= λ x. holds x >>= λ is_true.
        (if is_true then value_closed world frame v i else arms_closed world frame arms otherwise otherwise' e i)

    part_closed : (world : World) (frame : Frame) (o : Part) → value_of_part world (with_locals [] frame) (part_mapped (closed_name locals) (closed_count locals) o) ≡ value_of_part world (with_locals locals frame) o
    part_closed world frame no_part = refl
    part_closed world frame (part t) = value_closed world frame t

    if_closed : (world : World) (frame : Frame) (ts : Trees) → value_of_if world (with_locals [] frame) (closed_trees ts) ≡ value_of_if world (with_locals locals frame) ts
    if_closed world frame no_tree = refl
    if_closed world frame (tree c ts) =
        λ i. value_closed world frame c i >>= λ x. holds x >>= λ is_true. at_closed world frame ts (if is_true then 0 else 1) i

    at_closed : (world : World) (frame : Frame) (ts : Trees) (place : ℕ) → value_at world (with_locals [] frame) (closed_trees ts) place ≡ value_at world (with_locals locals frame) ts place
    at_closed world frame no_tree place = refl
    at_closed world frame (tree t ts) zero = value_closed world frame t
    at_closed world frame (tree t ts) (suc place) = at_closed world frame ts place

    first_closed : (world : World) (frame : Frame) (ts : Trees) → first_known_of world (with_locals [] frame) (closed_trees ts) ≡ first_known_of world (with_locals locals frame) ts
    first_closed world frame no_tree = refl
    first_closed world frame (tree t ts) =
        λ i. value_closed world frame t i >>= λ x. (if is_null x then first_closed world frame ts i else pure x)

    pub is_kept_closed : (world : World) (frame : Frame) (o : Part) → is_kept world (with_locals [] frame) (part_mapped (closed_name locals) (closed_count locals) o) ≡ is_kept world (with_locals locals frame) o
    is_kept_closed world frame no_part = refl
    is_kept_closed world frame (part t) = λ i. value_closed world frame t i >>= holds

    pub order_closed : (world : World) (frame : Frame) (os : Orders) → order_values world (with_locals [] frame) (orders_mapped (closed_name locals) (closed_count locals) os) ≡ order_values world (with_locals locals frame) os
    order_closed world frame no_order = refl
    order_closed world frame (order_by t down os) =
        λ i. value_closed world frame t i >>= λ x. order_closed world frame os i >>= λ xs. pure (x ∷ xs)

    arguments_closed : (world : World) (frame : Frame) (rest : Aggregates) → argument_values world (with_locals [] frame) (aggregates_mapped (closed_name locals) (closed_count locals) rest) ≡ argument_values world (with_locals locals frame) rest
    arguments_closed world frame no_aggregate = refl
    arguments_closed world frame (count_all rest) = λ i. arguments_closed world frame rest i >>= λ xs. pure (Int (pos 1) ∷ xs)
    arguments_closed world frame (aggregate f a rest) =
        λ i. value_closed world frame a i >>= λ x. arguments_closed world frame rest i >>= λ xs. pure (x ∷ xs)

    shown_closed : (world : World) (frame : Frame) (definition : TableDef) (what : Selected) (rows : List (List Value)) → shown_rows world (with_locals [] frame) definition (selected_mapped (closed_name locals) (closed_count locals) what) rows ≡ shown_rows world (with_locals locals frame) definition what rows
    shown_closed world frame definition (items ts) rows = λ i. each (λ row. values_closed world (sees definition row frame) ts i) rows
    shown_closed world frame definition all_columns rows = refl
    shown_closed world frame definition (aggregates rest) rows =
        λ i. each (λ row. arguments_closed world (sees definition row frame) rest i) rows >>= λ arguments.
        formed (functions_closed rest i) arguments >>= λ row. pure (row ∷ [])

    alone_closed : (world : World) (frame : Frame) (what : Selected) → row_alone world (with_locals [] frame) (selected_mapped (closed_name locals) (closed_count locals) what) ≡ row_alone world (with_locals locals frame) what
    alone_closed world frame (items ts) = λ i. values_closed world frame ts i >>= λ row. pure (row ∷ [])
    alone_closed world frame all_columns = refl
    alone_closed world frame (aggregates rest) = refl

    pub query_closed : (world : World) (frame : Frame) (q : Query) → rows_of_query world (with_locals [] frame) (query_mapped (closed_name locals) (closed_count locals) q) ≡ rows_of_query world (with_locals locals frame) q
    query_closed world frame (query what no_origin) = alone_closed world frame what
    query_closed world frame (query what (from_table t condition os limit)) =
        λ i. table_now t >>= λ table.
        kept_by (λ row. is_kept_closed world (sees table.definition row frame) condition i) table.rows >>= λ rows.
        each (λ row. order_closed world (sees table.definition row frame) os i >>= λ by. pure (by, row)) rows >>= λ keyed.
        shown_closed world frame table.definition what (limited_closed locals limit (sorted (directions_closed os i) keyed) i) i
