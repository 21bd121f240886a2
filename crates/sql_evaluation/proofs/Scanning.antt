-- SELECTs, one step at a time.
use Rattle.std.proofs.Common.{◌≡◌, ℕ, ◌+◌, ◌<◌, ◌≤◌, List, [], ◌∷◌, ◌++◌, Bool, true, false, cond, Option, Some, None, length, get_or, drop, map, refl, sym, ap, ◌∙◌, append_assoc, append-nil, subst, Result, Ok, Err, IsTrue, ◌↔◌}
use Rattle.std.specs.Ordering.{is_lt}
use Rattle.std.proofs.lemmas.List.{drop_all}
use Rattle.val_types.specs.declared.value.Value.{Value}
use Rattle.val_types.specs.declared.value.Value.TheVariants.{Null}
use Rattle.val_types.specs.declared.refusal.SqlRefusal.{SqlRefusal}
use Rattle.val_types.specs.declared.refusal.SqlRefusal.TheVariants.{Sql, NoMemory}
use Rattle.val_types.specs.declared.definitions.TableDef.{TableDef}
use Rattle.val_types.specs.declared.ops.Agg.{Agg}
use Rattle.sql_tree.specs.declared.expressions.Expr.{Expr}
use Rattle.sql_tree.specs.declared.expressions.Selection.{Selection}
use Rattle.sql_tree.specs.declared.expressions.FromClause.{FromClause, out-FromClause}
use Rattle.sql_tree.specs.declared.expressions.OrderItem.{OrderItem, out-OrderItem}
use Rattle.sql_tree.specs.declared.expressions.Select.{Select, out-Select}
use Rattle.sql_tree.specs.declared.expressions.Limit.{Limit}
use Rattle.sql_tree.specs.declared.expressions.Aggregate.TheFolds.{fold_out-Select, fold_out-FromClause, fold_out-OrderItem, map-Select, map-FromClause}
use Rattle.sql_tree.specs.Tree.{Tree, Trees, Query, query, Selected, Origin, from_table, Orders, no_order, order_by, Part, no_part, part, items}
use Rattle.sql_tree.specs.declared.expressions.Aggregate.{Aggregate}
use Rattle.sql_tree.specs.declared.expressions.Arm.{Arm}
use Rattle.sql_tree.specs.View.{view_aggregate, view_arm, view_tree, view_selected, view_origin, view_from, view_order, view_orders, view_part, view_query, aggregate_step, tree_step, selected_step, arm_step, origin_step, order_step, query_step}
use Rattle.table_rules.specs.Tables.{Table}
use Rattle.value_rules.specs.Selecting.{by_items, in_order, put_in_order, first_value}
use Rattle.key_order.specs.where_candidates.session_ctx.sql_meaning.Scenes.{Scene, Ending, Action, done, failed, then_do, pure, needed, each, kept_by, table_now, ◌>>=◌}
use Rattle.key_order.specs.where_candidates.session_ctx.sql_meaning.Frames.{sees, limited}
use Rattle.key_order.specs.where_candidates.session_ctx.sql_meaning.Values.{is_kept, order_values, shown_rows, sorted, directions, only_value}
use Rattle.exec_state.specs.declared.stage.Stage.{Stage}
use Rattle.exec_state.specs.Stage.{EndsAs, scene_of}
use Rattle.key_order.specs.where_candidates.Candidates.{AreCandidates, Sees}
use Rattle.key_order.specs.where_candidates.where_keys.declared.outside.Outside.{Outside}
use Rattle.sql_evaluation.specs.declared.world.View.{View as Shown}
use Rattle.sql_evaluation.specs.declared.world.Around.{Around}
use Rattle.sql_evaluation.specs.Seen.{value_in, values_in, holds_in, kept_in, where_in, keyed_in, ordered_in, order_in, items_in, shown_in, rows_in, alone_in, from_in, aggregated_in, seen, with_row, Inside, IsOutside, Anywhere, world_of, frame_of}
use Rattle.sql_evaluation.proofs.Loops.{rest_of, each_starts, each_more, each_fails, each_ends}
use Rattle.sql_evaluation.proofs.Branching.{rest_is, ends_through}

-- ---- the only value

pub only_none : Anywhere (Ok Null) (only_value [])
only_none = record { ends = λ scene. refl }

pub only_one : (row : List Value) (rest : List (List Value)) (v : Value) → rest ≡ [] → v ≡ first_value row → Anywhere (Ok v) (only_value (row ∷ rest))
only_one row [] v none is = record { ends = λ scene. ap (λ (x : Value). done x scene) (sym is) }
only_one row (more ∷ rest) v none is = cc

pub only_many : (row : List Value) (rest : List (List Value)) (b : Bool) → (IsTrue b ↔ (rest ≡ [])) → b ≡ false → Anywhere (Err (Sql 1242)) (only_value (row ∷ rest))
only_many row [] b h none = let e : b ≡ true = h.1 refl in cc
only_many row (more ∷ rest) b h none = record { ends = λ scene. refl }

pub only_short : (rows : List (List Value)) → Anywhere (Err NoMemory) (only_value rows)
only_short rows = record { ends = λ scene. tt }

pub ruleset single = (only_none, only_one, only_many, only_short)

-- ---- parts of a SELECT

select_level : (what : Selection) (from : Option FromClause)
    → query_step (map-Select Aggregate Expr Selection Arm FromClause OrderItem Select (Option (Agg × Tree)) Tree Selected (Tree × Tree) Origin (Tree × Bool) Query view_aggregate view_tree view_selected view_arm view_from view_order view_query (record { what = what; from = from })) ≡ query (view_selected what) (view_origin from)
select_level what None = refl
select_level what (Some f) = refl

query_of_out : (q : Select) → view_query q ≡ query (view_selected (out-Select q).what) (view_origin (out-Select q).from)
query_of_out q =
    fold_out-Select (Option (Agg × Tree)) Tree Selected (Tree × Tree) Origin (Tree × Bool) Query aggregate_step tree_step selected_step arm_step origin_step order_step query_step q
    ∙ select_level (out-Select q).what (out-Select q).from

-- ---- rows in view

pub inside_next : (d : TableDef) (outer inner : List Shown) (row : List Value) → Inside d outer inner → Inside d outer (with_row inner row)
inside_next d outer [] row h = h
inside_next d outer (v ∷ vs) row h = record { next = h.next }

-- ---- WHERE

unfoldable pub kept_left : Around → List Shown → TableDef → Tree → List (List Value) → List (List Value) → Scene → Ending (List (List Value))
kept_left a vs d t rows out scene = then_do (kept_in a vs d t rows scene) (λ rest. pure (out ++ rest))

kept_behind : (e : Ending (List (List Value))) (keeps : Bool) (row : List Value) (out : List (List Value))
    → then_do (then_do e (λ rest. pure (cond keeps (row ∷ rest) rest))) (λ rest. pure (out ++ rest)) ≡ then_do e (λ rest. pure (cond keeps (out ++ row ∷ []) out ++ rest))
kept_behind (done rest scene) true row out = ap (λ (xs : List (List Value)). done xs scene) (sym (append_assoc out (row ∷ []) rest))
kept_behind (done rest scene) false row out = refl
kept_behind (failed code scene) keeps row out = refl

kept_next : (a : Around) (vs inner : List Shown) (d : TableDef) (t : Tree) (rows : List (List Value)) (i : ℕ) (row : List Value) (out : List (List Value)) (keeps : Bool) (scene next : Scene)
    → i < length rows → row ≡ get_or rows i row → Inside d vs inner → holds_in a (with_row inner row) t scene ≡ done keeps next
    → kept_left a vs d t (drop i rows) out scene ≡ kept_left a vs d t (drop (i + 1) rows) (cond keeps (out ++ row ∷ []) out) next
unfolding kept_left
kept_next a vs inner d t rows i row out keeps scene next within is inside h =
    let here : holds_in a (seen d row vs) t scene ≡ done keeps next = subst (λ (ws : List Shown). holds_in a ws t scene ≡ done keeps next) (inside.next row) h in
    ap (λ (ys : List (List Value)). then_do (kept_in a vs d t ys scene) (λ rest. pure (out ++ rest))) (rest_is rows i row within is)
    ∙ ap (λ (e : Ending Bool). then_do (then_do e (λ keeps. kept_in a vs d t (drop (i + 1) rows) >>= λ rest. pure (cond keeps (row ∷ rest) rest))) (λ rest. pure (out ++ rest))) here
    ∙ kept_behind (kept_in a vs d t (drop (i + 1) rows) next) keeps row out

pub kept_start : (a : Around) (vs : List Shown) (d : TableDef) (t : Tree) (rows : List (List Value)) (scene : Scene) → kept_left a vs d t rows [] scene ≡ kept_in a vs d t rows scene
unfolding kept_left
kept_start a vs d t rows scene = nothing (kept_in a vs d t rows scene)
  where
    nothing : (e : Ending (List (List Value))) → then_do e (λ rest. pure ([] ++ rest)) ≡ e
    nothing (done rest scene) = refl
    nothing (failed code scene) = refl

pub kept_keep : (a : Around) (vs inner : List Shown) (d : TableDef) (t : Tree) (rows : List (List Value)) (i : ℕ) (row : List Value) (out : List (List Value)) (scene next : Scene) (o : Ending (List (List Value)))
    → i < length rows → row ≡ get_or rows i row → Inside d vs inner → holds_in a (with_row inner row) t scene ≡ done true next
    → kept_left a vs d t (drop i rows) out scene ≡ o → kept_left a vs d t (drop (i + 1) rows) (out ++ row ∷ []) next ≡ o
kept_keep a vs inner d t rows i row out scene next o within is inside h before = sym (kept_next a vs inner d t rows i row out true scene next within is inside h) ∙ before

pub kept_drop : (a : Around) (vs inner : List Shown) (d : TableDef) (t : Tree) (rows : List (List Value)) (i : ℕ) (row : List Value) (out : List (List Value)) (scene next : Scene) (o : Ending (List (List Value)))
    → i < length rows → row ≡ get_or rows i row → Inside d vs inner → holds_in a (with_row inner row) t scene ≡ done false next
    → kept_left a vs d t (drop i rows) out scene ≡ o → kept_left a vs d t (drop (i + 1) rows) out next ≡ o
kept_drop a vs inner d t rows i row out scene next o within is inside h before = sym (kept_next a vs inner d t rows i row out false scene next within is inside h) ∙ before

pub kept_fail : (a : Around) (vs inner : List Shown) (d : TableDef) (t : Tree) (rows : List (List Value)) (i : ℕ) (row : List Value) (out : List (List Value)) (code : ℕ) (scene next : Scene) (o : Ending (List (List Value)))
    → i < length rows → row ≡ get_or rows i row → Inside d vs inner → holds_in a (with_row inner row) t scene ≡ failed code next
    → kept_left a vs d t (drop i rows) out scene ≡ o → o ≡ failed code next
unfolding kept_left
kept_fail a vs inner d t rows i row out code scene next o within is inside h before =
    let here : holds_in a (seen d row vs) t scene ≡ failed code next = subst (λ (ws : List Shown). holds_in a ws t scene ≡ failed code next) (inside.next row) h in
    sym before ∙ ap (λ (ys : List (List Value)). then_do (kept_in a vs d t ys scene) (λ rest. pure (out ++ rest))) (rest_is rows i row within is)
    ∙ ap (λ (e : Ending Bool). then_do (then_do e (λ keeps. kept_in a vs d t (drop (i + 1) rows) >>= λ rest. pure (cond keeps (row ∷ rest) rest))) (λ rest. pure (out ++ rest))) here

pub kept_end : (a : Around) (vs : List Shown) (d : TableDef) (t : Tree) (rows : List (List Value)) (i : ℕ) (out : List (List Value)) (scene : Scene) (o : Ending (List (List Value)))
    → length rows ≤ i → kept_left a vs d t (drop i rows) out scene ≡ o → o ≡ done out scene
unfolding kept_left
kept_end a vs d t rows i out scene o past before =
    sym before ∙ ap (λ (ys : List (List Value)). then_do (kept_in a vs d t ys scene) (λ rest. pure (out ++ rest))) (drop_all i rows past)
    ∙ ap (λ (ys : List (List Value)). done ys scene) (append-nil out)

pub ruleset keeping = (inside_next, kept_start, kept_keep, kept_drop, kept_fail, kept_end)

-- ---- the items for each row

unfoldable pub items_left : Around → List Shown → TableDef → Trees → List (List Value) → List (List Value) → Scene → Ending (List (List Value))
items_left a vs d ts rows out scene = rest_of (λ row. values_in a (seen d row vs) ts) rows out scene

pub items_start : (a : Around) (vs : List Shown) (d : TableDef) (ts : Trees) (rows : List (List Value)) (scene : Scene) → items_left a vs d ts rows [] scene ≡ items_in a vs d ts rows scene
unfolding items_left
items_start a vs d ts rows scene = each_starts (λ row. values_in a (seen d row vs) ts) rows scene

pub items_more : (a : Around) (vs inner : List Shown) (d : TableDef) (ts : Trees) (rows : List (List Value)) (i : ℕ) (row : List Value) (out : List (List Value)) (new : List Value) (scene next : Scene) (o : Ending (List (List Value)))
    → i < length rows → row ≡ get_or rows i row → Inside d vs inner → values_in a (with_row inner row) ts scene ≡ done new next
    → items_left a vs d ts (drop i rows) out scene ≡ o → items_left a vs d ts (drop (i + 1) rows) (out ++ new ∷ []) next ≡ o
unfolding items_left
items_more a vs inner d ts rows i row out new scene next o within is inside h before =
    each_more (λ row. values_in a (seen d row vs) ts) rows i row out new scene next o within is
    (subst (λ (ws : List Shown). values_in a ws ts scene ≡ done new next) (inside.next row) h) before

pub items_fail : (a : Around) (vs inner : List Shown) (d : TableDef) (ts : Trees) (rows : List (List Value)) (i : ℕ) (row : List Value) (out : List (List Value)) (code : ℕ) (scene next : Scene) (o : Ending (List (List Value)))
    → i < length rows → row ≡ get_or rows i row → Inside d vs inner → values_in a (with_row inner row) ts scene ≡ failed code next
    → items_left a vs d ts (drop i rows) out scene ≡ o → o ≡ failed code next
unfolding items_left
items_fail a vs inner d ts rows i row out code scene next o within is inside h before =
    each_fails (λ row. values_in a (seen d row vs) ts) rows i row out code scene next o within is
    (subst (λ (ws : List Shown). values_in a ws ts scene ≡ failed code next) (inside.next row) h) before

pub items_end : (a : Around) (vs : List Shown) (d : TableDef) (ts : Trees) (rows : List (List Value)) (i : ℕ) (out : List (List Value)) (scene : Scene) (o : Ending (List (List Value)))
    → length rows ≤ i → items_left a vs d ts (drop i rows) out scene ≡ o → o ≡ done out scene
unfolding items_left
items_end a vs d ts rows i out scene o past before = each_ends (λ row. values_in a (seen d row vs) ts) rows i out scene o past before

pub ruleset itemizing = (inside_next, items_start, items_more, items_fail, items_end)

-- ---- ORDER BY

abbrev pub key_of : Around → List Shown → TableDef → Orders → List Value → Action (List Value × List Value)
key_of a vs d os row = order_in a (seen d row vs) os >>= λ by. pure (by, row)

unfoldable pub keyed_left : Around → List Shown → TableDef → Orders → List (List Value) → List (List Value × List Value) → Scene → Ending (List (List Value × List Value))
keyed_left a vs d os rows out scene = rest_of (key_of a vs d os) rows out scene

pub keyed_start : (a : Around) (vs : List Shown) (d : TableDef) (os : Orders) (rows : List (List Value)) (scene : Scene) → keyed_left a vs d os rows [] scene ≡ keyed_in a vs d os rows scene
unfolding keyed_left
keyed_start a vs d os rows scene = each_starts (key_of a vs d os) rows scene

pub keyed_more : (a : Around) (vs inner : List Shown) (d : TableDef) (os : Orders) (rows : List (List Value)) (i : ℕ) (row : List Value) (out : List (List Value × List Value)) (by : List Value) (scene next : Scene) (o : Ending (List (List Value × List Value)))
    → i < length rows → row ≡ get_or rows i row → Inside d vs inner → order_in a (with_row inner row) os scene ≡ done by next
    → keyed_left a vs d os (drop i rows) out scene ≡ o → keyed_left a vs d os (drop (i + 1) rows) (out ++ (by, row) ∷ []) next ≡ o
unfolding keyed_left
keyed_more a vs inner d os rows i row out by scene next o within is inside h before =
    let here : order_in a (seen d row vs) os scene ≡ done by next = subst (λ (ws : List Shown). order_in a ws os scene ≡ done by next) (inside.next row) h in
    each_more (key_of a vs d os) rows i row out (by, row) scene next o within is
    (ap (λ (e : Ending (List Value)). then_do e (λ by. pure (by, row))) here) before

pub keyed_fail : (a : Around) (vs inner : List Shown) (d : TableDef) (os : Orders) (rows : List (List Value)) (i : ℕ) (row : List Value) (out : List (List Value × List Value)) (code : ℕ) (scene next : Scene) (o : Ending (List (List Value × List Value)))
    → i < length rows → row ≡ get_or rows i row → Inside d vs inner → order_in a (with_row inner row) os scene ≡ failed code next
    → keyed_left a vs d os (drop i rows) out scene ≡ o → o ≡ failed code next
unfolding keyed_left
keyed_fail a vs inner d os rows i row out code scene next o within is inside h before =
    let here : order_in a (seen d row vs) os scene ≡ failed code next = subst (λ (ws : List Shown). order_in a ws os scene ≡ failed code next) (inside.next row) h in
    each_fails (key_of a vs d os) rows i row out code scene next o within is
    (ap (λ (e : Ending (List Value)). then_do e (λ by. pure (by, row))) here) before

pub keyed_end : (a : Around) (vs : List Shown) (d : TableDef) (os : Orders) (rows : List (List Value)) (i : ℕ) (out : List (List Value × List Value)) (scene : Scene) (o : Ending (List (List Value × List Value)))
    → length rows ≤ i → keyed_left a vs d os (drop i rows) out scene ≡ o → o ≡ done out scene
unfolding keyed_left
keyed_end a vs d os rows i out scene o past before = each_ends (key_of a vs d os) rows i out scene o past before

pub ruleset keying = (inside_next, keyed_start, keyed_more, keyed_fail, keyed_end)

-- rows that are sorted by nothing stay as they stand
abbrev alone : List Value → List Value × List Value
alone row = ([], row)

all_alone : (a : Around) (vs : List Shown) (d : TableDef) (rows : List (List Value)) (scene : Scene) → keyed_in a vs d no_order rows scene ≡ done (map alone rows) scene
all_alone a vs d [] scene = refl
all_alone a vs d (row ∷ rows) scene =
    ap (λ (e : Ending (List (List Value × List Value))). then_do e (λ rest. pure (alone row ∷ rest))) (all_alone a vs d rows scene)

abbrev never_before : List Value × List Value → List Value × List Value → Bool
never_before x y = is_lt (by_items [] x.0 y.0)

put_first : (x : List Value × List Value) (ys : List (List Value × List Value)) → put_in_order never_before x ys ≡ x ∷ ys
put_first x [] = refl
put_first x (y ∷ ys) = refl

stays : (xs : List (List Value × List Value)) → in_order never_before xs ≡ xs
stays [] = refl
stays (x ∷ xs) = put_first x (in_order never_before xs) ∙ ap (λ (ys : List (List Value × List Value)). x ∷ ys) (stays xs)

alone_again : (rows : List (List Value)) → map (λ (r : List Value × List Value). r.1) (map alone rows) ≡ rows
alone_again [] = refl
alone_again (row ∷ rows) = ap (λ (ys : List (List Value)). row ∷ ys) (alone_again rows)

nothing_sorts : (a : Around) (vs : List Shown) (d : TableDef) (rows : List (List Value)) (scene : Scene) → ordered_in a vs d no_order rows scene ≡ done rows scene
nothing_sorts a vs d rows scene =
    ap (λ (e : Ending (List (List Value × List Value))). then_do e (λ keyed. pure (sorted [] keyed))) (all_alone a vs d rows scene)
    ∙ ap (λ (xs : List (List Value × List Value)). done (map (λ (r : List Value × List Value). r.1) xs) scene) (stays (map alone rows))
    ∙ ap (λ (xs : List (List Value)). done xs scene) (alone_again rows)

pub no_order_given : (a : Around) (vs : List Shown) (d : TableDef) (order : List OrderItem) (b : Bool) (rows : List (List Value)) (scene : Scene)
    → (IsTrue b ↔ (order ≡ [])) → b ≡ true → ordered_in a vs d (view_orders order) rows scene ≡ done rows scene
no_order_given a vs d [] b rows scene h e = nothing_sorts a vs d rows scene
no_order_given a vs d (x ∷ xs) b rows scene h e = let same : x ∷ xs ≡ [] = h.0 e in cc

pub ruleset unordered = (no_order_given)

-- the items of ORDER BY

order_of_out : (x : OrderItem) → view_order x ≡ (view_tree (out-OrderItem x).by, (out-OrderItem x).descending)
order_of_out x = fold_out-OrderItem (Option (Agg × Tree)) Tree Selected (Tree × Tree) Origin (Tree × Bool) Query aggregate_step tree_step selected_step arm_step origin_step order_step query_step x

unfoldable pub order_left : Around → List Shown → Orders → List Value → Scene → Ending (List Value)
order_left a vs os out scene = then_do (order_in a vs os scene) (λ rest. pure (out ++ rest))

order_behind : (e : Ending (List Value)) (out : List Value) (v : Value)
    → then_do (then_do e (λ vs. pure (v ∷ vs))) (λ vs. pure (out ++ vs)) ≡ then_do e (λ vs. pure ((out ++ v ∷ []) ++ vs))
order_behind (done vs scene) out v = ap (λ (xs : List Value). done xs scene) (sym (append_assoc out (v ∷ []) vs))
order_behind (failed code scene) out v = refl

order_next : (a : Around) (vs : List Shown) (xs : List OrderItem) (i : ℕ) (x : OrderItem) (out : List Value) (scene : Scene)
    → i < length xs → x ≡ get_or xs i x
    → order_left a vs (view_orders (drop i xs)) out scene
    ≡ then_do (then_do (value_in a vs (view_tree (out-OrderItem x).by) scene) (λ v. order_in a vs (view_orders (drop (i + 1) xs)) >>= λ rest. pure (v ∷ rest))) (λ rest. pure (out ++ rest))
unfolding order_left
order_next a vs xs i x out scene within is =
    ap (λ (ys : List OrderItem). then_do (order_in a vs (view_orders ys) scene) (λ rest. pure (out ++ rest))) (rest_is xs i x within is)
    ∙ ap (λ (y : Tree × Bool). then_do (order_in a vs (order_by y.0 y.1 (view_orders (drop (i + 1) xs))) scene) (λ rest. pure (out ++ rest))) (order_of_out x)

pub order_start : (a : Around) (vs : List Shown) (os : Orders) (scene : Scene) → order_left a vs os [] scene ≡ order_in a vs os scene
unfolding order_left
order_start a vs os scene = nothing (order_in a vs os scene)
  where
    nothing : (e : Ending (List Value)) → then_do e (λ rest. pure ([] ++ rest)) ≡ e
    nothing (done rest scene) = refl
    nothing (failed code scene) = refl

pub order_more : (a : Around) (vs : List Shown) (xs : List OrderItem) (i : ℕ) (x : OrderItem) (out : List Value) (v : Value) (scene next : Scene) (o : Ending (List Value))
    → i < length xs → x ≡ get_or xs i x → value_in a vs (view_tree (out-OrderItem x).by) scene ≡ done v next
    → order_left a vs (view_orders (drop i xs)) out scene ≡ o → order_left a vs (view_orders (drop (i + 1) xs)) (out ++ v ∷ []) next ≡ o
unfolding order_left
order_more a vs xs i x out v scene next o within is h before =
    sym (order_next a vs xs i x out scene within is ∙ (rw h (order_behind (order_in a vs (view_orders (drop (i + 1) xs)) next) out v))) ∙ before

pub order_fail : (a : Around) (vs : List Shown) (xs : List OrderItem) (i : ℕ) (x : OrderItem) (out : List Value) (code : ℕ) (scene next : Scene) (o : Ending (List Value))
    → i < length xs → x ≡ get_or xs i x → value_in a vs (view_tree (out-OrderItem x).by) scene ≡ failed code next
    → order_left a vs (view_orders (drop i xs)) out scene ≡ o → o ≡ failed code next
order_fail a vs xs i x out code scene next o within is h before = sym before ∙ order_next a vs xs i x out scene within is ∙ (rw h refl)

pub order_end : (a : Around) (vs : List Shown) (xs : List OrderItem) (i : ℕ) (out : List Value) (scene : Scene) (o : Ending (List Value))
    → length xs ≤ i → order_left a vs (view_orders (drop i xs)) out scene ≡ o → o ≡ done out scene
unfolding order_left
order_end a vs xs i out scene o past before =
    sym before ∙ ap (λ (ys : List OrderItem). then_do (order_in a vs (view_orders ys) scene) (λ rest. pure (out ++ rest))) (drop_all i xs past)
    ∙ ap (λ (ys : List Value). done ys scene) (append-nil out)

pub ruleset ordering_values = (order_start, order_more, order_fail, order_end)

-- ---- what is shown

pub shown_items : (a : Around) (vs : List Shown) (d : TableDef) (ts : Trees) (rows : List (List Value)) (r : Result (List (List Value)) SqlRefusal) (scene last : Scene)
    → EndsAs r last (items_in a vs d ts rows scene) → EndsAs r last (shown_in a vs d (items ts) rows scene)
unfolding frame_of
shown_items a vs d ts rows r scene last h = h

pub shown_aggregates : (a : Around) (vs : List Shown) (d : TableDef) (as' : Rattle.sql_tree.specs.Tree.Aggregates) (rows : List (List Value)) (r : Result (List (List Value)) SqlRefusal) (scene last : Scene)
    → EndsAs r last (aggregated_in a vs d as' rows scene) → EndsAs r last (shown_in a vs d (Rattle.sql_tree.specs.Tree.aggregates as') rows scene)
unfolding frame_of
shown_aggregates a vs d as' rows r scene last h = h

pub shown_all : (a : Around) (vs : List Shown) (d : TableDef) (rows : List (List Value)) (scene : Scene) → shown_in a vs d Rattle.sql_tree.specs.Tree.all_columns rows scene ≡ done rows scene
shown_all a vs d rows scene = refl

-- ---- FROM, WHERE, ORDER BY and LIMIT

from_level : (table : List ℕ) (filter : Option (Expr)) (order : List OrderItem) (limit : Option Limit)
    → origin_step (map-FromClause Aggregate Expr Selection Arm FromClause OrderItem Select (Option (Agg × Tree)) Tree Selected (Tree × Tree) Origin (Tree × Bool) Query view_aggregate view_tree view_selected view_arm view_from view_order view_query (record { table = table; filter = filter; order = order; limit = limit })) ≡ from_table table (view_part filter) (view_orders order) limit
from_level table None order limit = refl
from_level table (Some e) order limit = refl

from_of_out : (f : FromClause) → view_from f ≡ from_table (out-FromClause f).table (view_part (out-FromClause f).filter) (view_orders (out-FromClause f).order) (out-FromClause f).limit
from_of_out f =
    fold_out-FromClause (Option (Agg × Tree)) Tree Selected (Tree × Tree) Origin (Tree × Bool) Query aggregate_step tree_step selected_step arm_step origin_step order_step query_step f
    ∙ from_level (out-FromClause f).table (out-FromClause f).filter (out-FromClause f).order (out-FromClause f).limit

kept_all : (rows : List (List Value)) (scene : Scene) → kept_by (λ row. pure true) rows scene ≡ done rows scene
kept_all [] scene = refl
kept_all (row ∷ rows) scene = ap (λ (e : Ending (List (List Value))). then_do e (λ rest. pure (row ∷ rest))) (kept_all rows scene)

pub where_is : (a : Around) (vs : List Shown) (d : TableDef) (p : Part) (rows : List (List Value)) (scene : Scene)
    → kept_by (λ row. is_kept (world_of a) (sees d row (frame_of a vs)) p) rows scene ≡ where_in a vs d p rows scene
unfolding frame_of
where_is a vs d no_part rows scene = kept_all rows scene
where_is a vs d (part t) rows scene = refl

-- WHERE keeps the same of its candidates as of all rows
pub where_same : (a : Around) (vs : List Shown) (o : Outside) (name : List ℕ) (d : TableDef) (p : Part) (tables : List Table) (rows : List (List Value)) (scene : Scene) → IsOutside a o
    → (seen : AreCandidates o name d p tables rows) → where_in a vs d p seen.all scene ≡ where_in a vs d p rows scene
where_same a vs o name d p tables rows scene outside seen =
    sym (where_is a vs d p seen.all scene) ∙ seen.enough (world_of a) (frame_of a vs) (outside.round vs) scene ∙ where_is a vs d p rows scene

-- they are of the table as it stands
pub seen_there : (o : Outside) (name : List ℕ) (d : TableDef) (p : Part) (stage : Stage) (rows : List (List Value)) → (seen : AreCandidates o name d p stage.tables.tables rows)
    → table_now name (scene_of stage) ≡ done (record { definition = d; rows = seen.all }) (scene_of stage)
unfolding scene_of
seen_there o name d p stage rows seen = ap (λ (t : Option Table). needed 1146 t (scene_of stage)) seen.there

mapped_done : {A B C : Type 0} (e : Ending A) (f : A → B) (g : B → Action C) (b : B) (next : Scene) → then_do e (λ x. pure (f x)) ≡ done b next → then_do e (λ x. g (f x)) ≡ g b next
mapped_done (done x scene) f g b next h = let same : f x ≡ b = cc in let here : scene ≡ next = cc in rw (same, here) refl
mapped_done (failed code scene) f g b next h = cc

mapped_failed : {A B C : Type 0} (e : Ending A) (f : A → B) (g : B → Action C) (code : ℕ) (next : Scene) → then_do e (λ x. pure (f x)) ≡ failed code next → then_do e (λ x. g (f x)) ≡ failed code next
mapped_failed (done x scene) f g code next h = cc
mapped_failed (failed c scene) f g code next h = let same : c ≡ code = cc in let here : scene ≡ next = cc in rw (same, here) refl

-- behind the table
abbrev behind_table : Around → List Shown → Selected → Part → Orders → Option Limit → Table → Action (List (List Value))
behind_table a vs what p os limit table =
    where_in a vs table.definition p table.rows >>= λ rows. keyed_in a vs table.definition os rows >>= λ keyed.
    shown_in a vs table.definition what (limited a.locals.now limit (sorted (directions os) keyed))

-- equal steps give equal actions
steps_same : {A B : Type 0} (e : Ending A) (f g : A → Action B) → ((x : A) (scene : Scene) → f x scene ≡ g x scene) → then_do e f ≡ then_do e g
steps_same (done x scene) f g same = same x scene
steps_same (failed code scene) f g same = refl

table_behind : (a : Around) (vs : List Shown) (what : Selected) (p : Part) (os : Orders) (limit : Option Limit) (table : Table) (scene : Scene)
    → then_do (kept_by (λ row. is_kept (world_of a) (sees table.definition row (frame_of a vs)) p) table.rows scene) (λ rows.
    each (λ row. order_values (world_of a) (sees table.definition row (frame_of a vs)) os >>= λ by. pure (by, row)) rows >>= λ keyed.
    shown_rows (world_of a) (frame_of a vs) table.definition what (limited (frame_of a vs).locals limit (sorted (directions os) keyed)))
    ≡ behind_table a vs what p os limit table scene
unfolding frame_of
table_behind a vs what p os limit table scene =
    ap (λ (e : Ending (List (List Value))). then_do e (λ rows. keyed_in a vs table.definition os rows >>= λ keyed.
    shown_in a vs table.definition what (limited a.locals.now limit (sorted (directions os) keyed)))) (where_is a vs table.definition p table.rows scene)

from_is : (a : Around) (vs : List Shown) (what : Selected) (t : List ℕ) (p : Part) (os : Orders) (limit : Option Limit) (scene : Scene)
    → from_in a vs what (from_table t p os limit) scene ≡ then_do (table_now t scene) (behind_table a vs what p os limit)
unfolding from_in
from_is a vs what t p os limit scene =
    steps_same (table_now t scene) _ (behind_table a vs what p os limit) (λ table next. table_behind a vs what p os limit table next)

from_clause : (a : Around) (vs : List Shown) (what : Selected) (f : FromClause) (scene : Scene)
    → from_in a vs what (view_from f) scene ≡ then_do (table_now (out-FromClause f).table scene) (behind_table a vs what (view_part (out-FromClause f).filter) (view_orders (out-FromClause f).order) (out-FromClause f).limit)
from_clause a vs what f scene =
    ap (λ (o : Origin). from_in a vs what o scene) (from_of_out f)
    ∙ from_is a vs what (out-FromClause f).table (view_part (out-FromClause f).filter) (view_orders (out-FromClause f).order) (out-FromClause f).limit scene

pub from_done : (a : Around) (vs : List Shown) (what : Selected) (f : FromClause) (table : Table) (rows ordered : List (List Value)) (r : Result (List (List Value)) SqlRefusal) (scene s1 s2 s3 last : Scene)
    → table_now (out-FromClause f).table scene ≡ done table s1
    → where_in a vs table.definition (view_part (out-FromClause f).filter) table.rows s1 ≡ done rows s2
    → ordered_in a vs table.definition (view_orders (out-FromClause f).order) rows s2 ≡ done ordered s3
    → EndsAs r last (shown_in a vs table.definition what (limited a.locals.now (out-FromClause f).limit ordered) s3)
    → EndsAs r last (from_in a vs what (view_from f) scene)
from_done a vs what f table rows ordered r scene s1 s2 s3 last found kept sorts shown =
    ends_through r last (from_in a vs what (view_from f) scene) (shown_in a vs table.definition what (limited a.locals.now (out-FromClause f).limit ordered) s3)
    (from_clause a vs what f scene ∙ (rw (found, kept) (mapped_done (keyed_in a vs table.definition (view_orders (out-FromClause f).order) rows s2)
    (sorted (directions (view_orders (out-FromClause f).order))) (λ xs. shown_in a vs table.definition what (limited a.locals.now (out-FromClause f).limit xs)) ordered s3 sorts))) shown

pub from_no_table : (a : Around) (vs : List Shown) (what : Selected) (f : FromClause) (e : SqlRefusal) (r : Result (List (List Value)) SqlRefusal) (scene last : Scene)
    → r ≡ Err e → EndsAs {A = Table} (Err e) last (table_now (out-FromClause f).table scene) → EndsAs r last (from_in a vs what (view_from f) scene)
from_no_table a vs what f NoMemory r scene last same h = rw same tt
from_no_table a vs what f (Sql code) r scene last same h = rw same (from_clause a vs what f scene ∙ (rw h refl))

pub from_not_kept : (a : Around) (vs : List Shown) (what : Selected) (f : FromClause) (table : Table) (e : SqlRefusal) (r : Result (List (List Value)) SqlRefusal) (scene s1 last : Scene)
    → r ≡ Err e → table_now (out-FromClause f).table scene ≡ done table s1
    → EndsAs {A = List (List Value)} (Err e) last (where_in a vs table.definition (view_part (out-FromClause f).filter) table.rows s1) → EndsAs r last (from_in a vs what (view_from f) scene)
from_not_kept a vs what f table NoMemory r scene s1 last same found h = rw same tt
from_not_kept a vs what f table (Sql code) r scene s1 last same found h = rw same (from_clause a vs what f scene ∙ (rw (found, h) refl))

pub from_not_ordered : (a : Around) (vs : List Shown) (what : Selected) (f : FromClause) (table : Table) (rows : List (List Value)) (e : SqlRefusal) (r : Result (List (List Value)) SqlRefusal) (scene s1 s2 last : Scene)
    → r ≡ Err e → table_now (out-FromClause f).table scene ≡ done table s1
    → where_in a vs table.definition (view_part (out-FromClause f).filter) table.rows s1 ≡ done rows s2
    → EndsAs {A = List (List Value)} (Err e) last (ordered_in a vs table.definition (view_orders (out-FromClause f).order) rows s2) → EndsAs r last (from_in a vs what (view_from f) scene)
from_not_ordered a vs what f table rows NoMemory r scene s1 s2 last same found kept h = rw same tt
from_not_ordered a vs what f table rows (Sql code) r scene s1 s2 last same found kept h =
    rw same (from_clause a vs what f scene ∙ (rw (found, kept) (mapped_failed (keyed_in a vs table.definition (view_orders (out-FromClause f).order) rows s2)
    (sorted (directions (view_orders (out-FromClause f).order))) (λ xs. shown_in a vs table.definition what (limited a.locals.now (out-FromClause f).limit xs)) code last h)))

pub from_not_kept_at : (a : Around) (vs : List Shown) (what : Selected) (f : FromClause) (table : Table) (e : SqlRefusal) (scene s1 last : Scene)
    → table_now (out-FromClause f).table scene ≡ done table s1
    → EndsAs {A = List (List Value)} (Err e) last (where_in a vs table.definition (view_part (out-FromClause f).filter) table.rows s1) → EndsAs {A = List (List Value)} (Err e) last (from_in a vs what (view_from f) scene)
from_not_kept_at a vs what f table e scene s1 last found h = from_not_kept a vs what f table e (Err e) scene s1 last refl found h

pub from_not_ordered_at : (a : Around) (vs : List Shown) (what : Selected) (f : FromClause) (table : Table) (rows : List (List Value)) (e : SqlRefusal) (scene s1 s2 last : Scene)
    → table_now (out-FromClause f).table scene ≡ done table s1
    → where_in a vs table.definition (view_part (out-FromClause f).filter) table.rows s1 ≡ done rows s2
    → EndsAs {A = List (List Value)} (Err e) last (ordered_in a vs table.definition (view_orders (out-FromClause f).order) rows s2) → EndsAs {A = List (List Value)} (Err e) last (from_in a vs what (view_from f) scene)
from_not_ordered_at a vs what f table rows e scene s1 s2 last found kept h = from_not_ordered a vs what f table rows e (Err e) scene s1 s2 last refl found kept h

-- of rows of which WHERE keeps the same
pub from_not_kept_of : (a : Around) (vs : List Shown) (what : Selected) (f : FromClause) (table : Table) (rows : List (List Value)) (e : SqlRefusal) (scene s1 last : Scene)
    → table_now (out-FromClause f).table scene ≡ done table s1
    → where_in a vs table.definition (view_part (out-FromClause f).filter) table.rows s1 ≡ where_in a vs table.definition (view_part (out-FromClause f).filter) rows s1
    → EndsAs {A = List (List Value)} (Err e) last (where_in a vs table.definition (view_part (out-FromClause f).filter) rows s1)
    → EndsAs {A = List (List Value)} (Err e) last (from_in a vs what (view_from f) scene)
from_not_kept_of a vs what f table rows e scene s1 last found same h =
    from_not_kept_at a vs what f table e scene s1 last found (subst (λ (m : Ending (List (List Value))). EndsAs {A = List (List Value)} (Err e) last m) (sym same) h)

pub from_not_seen_at : (a : Around) (vs : List Shown) (what : Selected) (f : FromClause) (o : Outside) (p : Part) (e : SqlRefusal) (stage : Stage)
    → Sees o (out-FromClause f).table p stage.tables.tables (Err e) → EndsAs {A = List (List Value)} (Err e) (scene_of stage) (from_in a vs what (view_from f) (scene_of stage))
unfolding scene_of
from_not_seen_at a vs what f o p NoMemory stage h = tt
from_not_seen_at a vs what f o p (Sql code) stage h =
    from_no_table a vs what f (Sql code) (Err (Sql code)) (scene_of stage) (scene_of stage) refl
    (ap (λ (t : Option Table). needed 1146 t (scene_of stage)) h.1 ∙ ap (λ (c : ℕ). failed c (scene_of stage)) (sym h.0))

pub ruleset clauses = (from_done, from_no_table, from_not_kept, from_not_ordered)

-- ---- a SELECT with a table, or without

select_of : (a : Around) (vs : List Shown) (q : Select) (o : Option FromClause) (r : Result (List (List Value)) SqlRefusal) (scene last : Scene)
    → (out-Select q).from ≡ o → EndsAs r last (rows_in a vs (query (view_selected (out-Select q).what) (view_origin o)) scene) → EndsAs r last (rows_in a vs (view_query q) scene)
select_of a vs q o r scene last is h =
    subst (λ (x : Query). EndsAs r last (rows_in a vs x scene)) (sym (query_of_out q ∙ ap (λ (x : Option FromClause). query (view_selected (out-Select q).what) (view_origin x)) is)) h

pub select_from : (a : Around) (vs : List Shown) (q : Select) (f : FromClause) (r : Result (List (List Value)) SqlRefusal) (scene last : Scene)
    → (out-Select q).from ≡ Some f → EndsAs r last (from_in a vs (view_selected (out-Select q).what) (view_from f) scene) → EndsAs r last (rows_in a vs (view_query q) scene)
unfolding from_in
select_from a vs q f r scene last is h = select_of a vs q (Some f) r scene last is h

pub select_alone : (a : Around) (vs : List Shown) (q : Select) (r : Result (List (List Value)) SqlRefusal) (scene last : Scene)
    → (out-Select q).from ≡ None → EndsAs r last (alone_in a vs (view_selected (out-Select q).what) scene) → EndsAs r last (rows_in a vs (view_query q) scene)
select_alone a vs q r scene last is h = select_of a vs q None r scene last is h

pub ruleset selects = (select_from, select_alone)
