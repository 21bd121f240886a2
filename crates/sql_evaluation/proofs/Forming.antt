-- Aggregates, one at a time.
use Rattle.std.proofs.Common.{◌≡◌, ℕ, zero, suc, ◌+◌, ◌<◌, ◌≤◌, List, [], ◌∷◌, ◌++◌, Option, Some, None, length, get_or, drop, map, refl, sym, ap, ◌∙◌, append_assoc, append-nil, add-one, subst, Result, Ok, Err}
use Rattle.std.specs.List.{slice_index_or, slice_get}
use Rattle.std.proofs.lemmas.List.{drop_all}
use Rattle.val_types.specs.declared.value.Value.{Value}
use Rattle.val_types.specs.declared.value.Value.TheVariants.{Null}
use Rattle.val_types.specs.declared.refusal.SqlRefusal.{SqlRefusal}
use Rattle.val_types.specs.declared.refusal.SqlRefusal.TheVariants.{Sql, NoMemory}
use Rattle.val_types.specs.declared.definitions.TableDef.{TableDef}
use Rattle.val_types.specs.declared.ops.Agg.{Agg}
use Rattle.sql_tree.specs.declared.expressions.Aggregate.{Aggregate}
use Rattle.sql_tree.specs.Tree.{Tree, Aggregates}
use Rattle.sql_tree.specs.View.{view_aggregate, view_aggregates, aggregate_before}
use Rattle.value_rules.specs.Selecting.{first_value, aggregate_value}
use Rattle.key_order.specs.where_candidates.session_ctx.sql_meaning.Scenes.{Scene, Ending, done, failed, then_do, pure, answered, ◌>>=◌}
use Rattle.key_order.specs.where_candidates.session_ctx.sql_meaning.Values.{formed, functions_of}
use Rattle.exec_state.specs.Stage.{EndsAs}
use Rattle.sql_evaluation.specs.declared.world.View.{View as Shown}
use Rattle.sql_evaluation.specs.declared.world.Around.{Around}
use Rattle.sql_evaluation.specs.Seen.{argument_in, arguments_in, argument_rows_in, aggregated_in, function_in, column_at, put_before, formed_values, seen, with_row, Inside}
use Rattle.sql_evaluation.proofs.Loops.{rest_of, each_starts, each_more, each_fails, each_ends}
use Rattle.sql_evaluation.proofs.Branching.{rest_is}
use Rattle.sql_evaluation.proofs.Scanning.{inside_next}

-- ---- the arguments of a row

unfoldable pub arguments_left : Around → List Shown → Aggregates → List Value → Scene → Ending (List Value)
arguments_left a vs as' out scene = then_do (arguments_in a vs as' scene) (λ rest. pure (out ++ rest))

arguments_first : (a : Around) (vs : List Shown) (one : Option (Agg × Tree)) (rest : Aggregates) (scene : Scene)
    → arguments_in a vs (aggregate_before one rest) scene ≡ then_do (argument_in a vs one scene) (λ v. arguments_in a vs rest >>= λ xs. pure (v ∷ xs))
arguments_first a vs None rest scene = refl
arguments_first a vs (Some one) rest scene = refl

arguments_behind : (e : Ending (List Value)) (out : List Value) (v : Value)
    → then_do (then_do e (λ vs. pure (v ∷ vs))) (λ vs. pure (out ++ vs)) ≡ then_do e (λ vs. pure ((out ++ v ∷ []) ++ vs))
arguments_behind (done vs scene) out v = ap (λ (xs : List Value). done xs scene) (sym (append_assoc out (v ∷ []) vs))
arguments_behind (failed code scene) out v = refl

arguments_next : (a : Around) (vs : List Shown) (xs : List Aggregate) (i : ℕ) (x : Aggregate) (out : List Value) (scene : Scene)
    → i < length xs → x ≡ get_or xs i x
    → arguments_left a vs (view_aggregates (drop i xs)) out scene
    ≡ then_do (then_do (argument_in a vs (view_aggregate x) scene) (λ v. arguments_in a vs (view_aggregates (drop (i + 1) xs)) >>= λ rest. pure (v ∷ rest))) (λ rest. pure (out ++ rest))
unfolding arguments_left
arguments_next a vs xs i x out scene within is =
    ap (λ (ys : List Aggregate). then_do (arguments_in a vs (view_aggregates ys) scene) (λ rest. pure (out ++ rest))) (rest_is xs i x within is)
    ∙ ap (λ (e : Ending (List Value)). then_do e (λ rest. pure (out ++ rest))) (arguments_first a vs (view_aggregate x) (view_aggregates (drop (i + 1) xs)) scene)

pub arguments_start : (a : Around) (vs : List Shown) (as' : Aggregates) (scene : Scene) → arguments_left a vs as' [] scene ≡ arguments_in a vs as' scene
unfolding arguments_left
arguments_start a vs as' scene = nothing (arguments_in a vs as' scene)
  where
    nothing : (e : Ending (List Value)) → then_do e (λ rest. pure ([] ++ rest)) ≡ e
    nothing (done rest scene) = refl
    nothing (failed code scene) = refl

pub arguments_more : (a : Around) (vs : List Shown) (xs : List Aggregate) (i : ℕ) (x : Aggregate) (out : List Value) (v : Value) (scene next : Scene) (o : Ending (List Value))
    → i < length xs → x ≡ get_or xs i x → argument_in a vs (view_aggregate x) scene ≡ done v next
    → arguments_left a vs (view_aggregates (drop i xs)) out scene ≡ o → arguments_left a vs (view_aggregates (drop (i + 1) xs)) (out ++ v ∷ []) next ≡ o
unfolding arguments_left
arguments_more a vs xs i x out v scene next o within is h before =
    sym (arguments_next a vs xs i x out scene within is ∙ (rw h (arguments_behind (arguments_in a vs (view_aggregates (drop (i + 1) xs)) next) out v))) ∙ before

pub arguments_fail : (a : Around) (vs : List Shown) (xs : List Aggregate) (i : ℕ) (x : Aggregate) (out : List Value) (code : ℕ) (scene next : Scene) (o : Ending (List Value))
    → i < length xs → x ≡ get_or xs i x → argument_in a vs (view_aggregate x) scene ≡ failed code next
    → arguments_left a vs (view_aggregates (drop i xs)) out scene ≡ o → o ≡ failed code next
arguments_fail a vs xs i x out code scene next o within is h before = sym before ∙ arguments_next a vs xs i x out scene within is ∙ (rw h refl)

pub arguments_fail_ends : (a : Around) (vs : List Shown) (xs : List Aggregate) (i : ℕ) (x : Aggregate) (out : List Value) (e : SqlRefusal) (scene next : Scene) (o : Ending (List Value))
    → i < length xs → x ≡ get_or xs i x → EndsAs {A = Value} (Err e) next (argument_in a vs (view_aggregate x) scene)
    → arguments_left a vs (view_aggregates (drop i xs)) out scene ≡ o → EndsAs {A = List Value} (Err e) next o
arguments_fail_ends a vs xs i x out (Sql code) scene next o within is h before = arguments_fail a vs xs i x out code scene next o within is h before
arguments_fail_ends a vs xs i x out NoMemory scene next o within is h before = tt

pub arguments_end : (a : Around) (vs : List Shown) (xs : List Aggregate) (i : ℕ) (out : List Value) (scene : Scene) (o : Ending (List Value))
    → length xs ≤ i → arguments_left a vs (view_aggregates (drop i xs)) out scene ≡ o → o ≡ done out scene
unfolding arguments_left
arguments_end a vs xs i out scene o past before =
    sym before ∙ ap (λ (ys : List Aggregate). then_do (arguments_in a vs (view_aggregates ys) scene) (λ rest. pure (out ++ rest))) (drop_all i xs past)
    ∙ ap (λ (ys : List Value). done ys scene) (append-nil out)

pub ruleset argument_lists = (arguments_start, arguments_more, arguments_fail, arguments_end)

-- ---- the arguments of all rows

unfoldable pub argued_left : Around → List Shown → TableDef → Aggregates → List (List Value) → List (List Value) → Scene → Ending (List (List Value))
argued_left a vs d as' rows out scene = rest_of (λ row. arguments_in a (seen d row vs) as') rows out scene

pub argued_start : (a : Around) (vs : List Shown) (d : TableDef) (as' : Aggregates) (rows : List (List Value)) (scene : Scene) → argued_left a vs d as' rows [] scene ≡ argument_rows_in a vs d as' rows scene
unfolding argued_left
argued_start a vs d as' rows scene = each_starts (λ row. arguments_in a (seen d row vs) as') rows scene

pub argued_more : (a : Around) (vs inner : List Shown) (d : TableDef) (as' : Aggregates) (rows : List (List Value)) (i : ℕ) (row : List Value) (out : List (List Value)) (new : List Value) (scene next : Scene) (o : Ending (List (List Value)))
    → i < length rows → row ≡ get_or rows i row → Inside d vs inner → arguments_in a (with_row inner row) as' scene ≡ done new next
    → argued_left a vs d as' (drop i rows) out scene ≡ o → argued_left a vs d as' (drop (i + 1) rows) (out ++ new ∷ []) next ≡ o
unfolding argued_left
argued_more a vs inner d as' rows i row out new scene next o within is inside h before =
    each_more (λ row. arguments_in a (seen d row vs) as') rows i row out new scene next o within is
    (subst (λ (ws : List Shown). arguments_in a ws as' scene ≡ done new next) (inside.next row) h) before

pub argued_fail : (a : Around) (vs inner : List Shown) (d : TableDef) (as' : Aggregates) (rows : List (List Value)) (i : ℕ) (row : List Value) (out : List (List Value)) (code : ℕ) (scene next : Scene) (o : Ending (List (List Value)))
    → i < length rows → row ≡ get_or rows i row → Inside d vs inner → arguments_in a (with_row inner row) as' scene ≡ failed code next
    → argued_left a vs d as' (drop i rows) out scene ≡ o → o ≡ failed code next
unfolding argued_left
argued_fail a vs inner d as' rows i row out code scene next o within is inside h before =
    each_fails (λ row. arguments_in a (seen d row vs) as') rows i row out code scene next o within is
    (subst (λ (ws : List Shown). arguments_in a ws as' scene ≡ failed code next) (inside.next row) h) before

pub argued_end : (a : Around) (vs : List Shown) (d : TableDef) (as' : Aggregates) (rows : List (List Value)) (i : ℕ) (out : List (List Value)) (scene : Scene) (o : Ending (List (List Value)))
    → length rows ≤ i → argued_left a vs d as' (drop i rows) out scene ≡ o → o ≡ done out scene
unfolding argued_left
argued_end a vs d as' rows i out scene o past before = each_ends (λ row. arguments_in a (seen d row vs) as') rows i out scene o past before

pub ruleset arguing = (inside_next, argued_start, argued_more, argued_fail, argued_end)

-- ---- aggregates of columns

pub nothing_there : (xs : List Value) (i : ℕ) → None ≡ slice_get xs i → Null ≡ slice_index_or xs i Null
nothing_there [] i h = refl
nothing_there (x ∷ xs) zero h = cc
nothing_there (x ∷ xs) (suc i) h = nothing_there xs i h

first_dropped : (row : List Value) (place : ℕ) → first_value (drop place row) ≡ slice_index_or row place Null
first_dropped [] zero = refl
first_dropped [] (suc place) = refl
first_dropped (v ∷ row) zero = refl
first_dropped (v ∷ row) (suc place) = first_dropped row place

column_is : (rows : List (List Value)) (place : ℕ) → map first_value (map (drop place) rows) ≡ column_at rows place
column_is [] place = refl
column_is (row ∷ rows) place = rw first_dropped (ap (λ (xs : List Value). slice_index_or row place Null ∷ xs) (column_is rows place))

drop_next : (row : List Value) (place : ℕ) → drop 1 (drop place row) ≡ drop (suc place) row
drop_next [] zero = refl
drop_next [] (suc place) = refl
drop_next (v ∷ row) zero = refl
drop_next (v ∷ row) (suc place) = drop_next row place

all_next : (rows : List (List Value)) (place : ℕ) → map (drop 1) (map (drop place) rows) ≡ map (drop (suc place)) rows
all_next [] place = refl
all_next (row ∷ rows) place = rw drop_next (ap (λ (xs : List (List Value)). drop (suc place) row ∷ xs) (all_next rows place))

put_first : (first : Result Value ℕ) (rest : Result (List Value) ℕ) (scene : Scene)
    → then_do (answered first scene) (λ v. answered rest >>= λ vs. pure (v ∷ vs)) ≡ answered (put_before first rest) scene
put_first (Ok v) (Ok vs) scene = refl
put_first (Ok v) (Err e) scene = refl
put_first (Err e) (Ok vs) scene = refl
put_first (Err e) (Err e') scene = refl

formed_from : (fs : List Agg) (place : ℕ) (rows : List (List Value)) (scene : Scene) → formed fs (map (drop place) rows) scene ≡ answered (formed_values fs place rows) scene
formed_from [] place rows scene = refl
formed_from (f ∷ fs) place rows scene =
    ap (λ (vs : List Value). then_do (answered (aggregate_value f vs) scene) (λ v. formed fs (map (drop 1) (map (drop place) rows)) >>= λ vs. pure (v ∷ vs))) (column_is rows place)
    ∙ ap (λ (xs : List (List Value)). then_do (answered (aggregate_value f (column_at rows place)) scene) (λ v. formed fs xs >>= λ vs. pure (v ∷ vs))) (all_next rows place)
    ∙ behind (aggregate_value f (column_at rows place)) (formed_from fs (suc place) rows)
    ∙ put_first (aggregate_value f (column_at rows place)) (formed_values fs (suc place) rows) scene
  where
    behind : (first : Result Value ℕ) → ((s : Scene) → formed fs (map (drop (suc place)) rows) s ≡ answered (formed_values fs (suc place) rows) s)
        → then_do (answered first scene) (λ v. formed fs (map (drop (suc place)) rows) >>= λ vs. pure (v ∷ vs)) ≡ then_do (answered first scene) (λ v. answered (formed_values fs (suc place) rows) >>= λ vs. pure (v ∷ vs))
    behind (Ok v) same = ap (λ (e : Ending (List Value)). then_do e (λ vs. pure (v ∷ vs))) (same scene)
    behind (Err e) same = refl

drop_none : (rows : List (List Value)) → map (drop 0) rows ≡ rows
drop_none [] = refl
drop_none (row ∷ rows) = ap (λ (xs : List (List Value)). row ∷ xs) (drop_none rows)

formed_is : (fs : List Agg) (rows : List (List Value)) (scene : Scene) → formed fs rows scene ≡ answered (formed_values fs 0 rows) scene
formed_is fs rows scene = ap (λ (xs : List (List Value)). formed fs xs scene) (sym (drop_none rows)) ∙ formed_from fs 0 rows scene

pub forming_done : (a : Around) (vs : List Shown) (d : TableDef) (as' : Aggregates) (rows arguments : List (List Value)) (row : List Value) (scene next : Scene)
    → argument_rows_in a vs d as' rows scene ≡ done arguments next → formed_values (functions_of as') 0 arguments ≡ Ok row
    → aggregated_in a vs d as' rows scene ≡ done (row ∷ []) next
forming_done a vs d as' rows arguments row scene next h e = rw h (rw formed_is (rw e refl))

pub forming_fails : (a : Around) (vs : List Shown) (d : TableDef) (as' : Aggregates) (rows arguments : List (List Value)) (code : ℕ) (scene next : Scene)
    → argument_rows_in a vs d as' rows scene ≡ done arguments next → formed_values (functions_of as') 0 arguments ≡ Err code
    → aggregated_in a vs d as' rows scene ≡ failed code next
forming_fails a vs d as' rows arguments code scene next h e = rw h (rw formed_is (rw e refl))

pub ruleset forming = (forming_done, forming_fails)

-- ---- the loop over the aggregates

abbrev pub behind_out : List Value → Result (List Value) ℕ → Result (List Value) ℕ
behind_out out (Ok vs) = Ok (out ++ vs)
behind_out out (Err e) = Err e

-- the aggregates that are left, behind the values of the first ones
unfoldable pub formed_left : List Aggregate → ℕ → List (List Value) → List Value → Result (List Value) ℕ
formed_left xs place rows out = behind_out out (formed_values (functions_of (view_aggregates xs)) place rows)

function_first : (one : Option (Agg × Tree)) (rest : Aggregates) → functions_of (aggregate_before one rest) ≡ function_in one ∷ functions_of rest
function_first None rest = refl
function_first (Some one) rest = refl

formed_next : (xs : List Aggregate) (i : ℕ) (x : Aggregate) (rows : List (List Value)) (out : List Value)
    → i < length xs → x ≡ get_or xs i x
    → formed_left (drop i xs) i rows out ≡ behind_out out (put_before (aggregate_value (function_in (view_aggregate x)) (column_at rows i)) (formed_values (functions_of (view_aggregates (drop (i + 1) xs))) (suc i) rows))
unfolding formed_left
formed_next xs i x rows out within is =
    ap (λ (ys : List Aggregate). behind_out out (formed_values (functions_of (view_aggregates ys)) i rows)) (rest_is xs i x within is)
    ∙ ap (λ (fs : List Agg). behind_out out (formed_values fs i rows)) (function_first (view_aggregate x) (view_aggregates (drop (i + 1) xs)))

put_behind : (rest : Result (List Value) ℕ) (out : List Value) (v : Value) → behind_out out (put_before (Ok v) rest) ≡ behind_out (out ++ v ∷ []) rest
put_behind (Ok vs) out v = ap (λ (xs : List Value). Ok xs) (sym (append_assoc out (v ∷ []) vs))
put_behind (Err e) out v = refl

fails_behind : (rest : Result (List Value) ℕ) (out : List Value) (code : ℕ) → behind_out out (put_before (Err code) rest) ≡ Err code
fails_behind (Ok vs) out code = refl
fails_behind (Err e) out code = refl

nothing_out : (r : Result (List Value) ℕ) → behind_out [] r ≡ r
nothing_out (Ok vs) = refl
nothing_out (Err e) = refl

pub formed_start : (xs : List Aggregate) (rows : List (List Value)) → formed_left xs 0 rows [] ≡ formed_values (functions_of (view_aggregates xs)) 0 rows
unfolding formed_left
formed_start xs rows = nothing_out (formed_values (functions_of (view_aggregates xs)) 0 rows)

formed_here : (xs : List Aggregate) (i : ℕ) (x : Aggregate) (rows : List (List Value)) (out : List Value) (v : Value)
    → i < length xs → x ≡ get_or xs i x → aggregate_value (function_in (view_aggregate x)) (column_at rows i) ≡ Ok v
    → formed_left (drop i xs) i rows out ≡ behind_out (out ++ v ∷ []) (formed_values (functions_of (view_aggregates (drop (i + 1) xs))) (suc i) rows)
formed_here xs i x rows out v within is h =
    formed_next xs i x rows out within is
    ∙ ap (λ (first : Result Value ℕ). behind_out out (put_before first (formed_values (functions_of (view_aggregates (drop (i + 1) xs))) (suc i) rows))) h
    ∙ put_behind (formed_values (functions_of (view_aggregates (drop (i + 1) xs))) (suc i) rows) out v

formed_again : (xs : List Aggregate) (i : ℕ) (rows : List (List Value)) (out : List Value) → formed_left xs (i + 1) rows out ≡ behind_out out (formed_values (functions_of (view_aggregates xs)) (suc i) rows)
unfolding formed_left
formed_again xs i rows out = ap (λ (n : ℕ). behind_out out (formed_values (functions_of (view_aggregates xs)) n rows)) (add-one i)

pub formed_more : (xs : List Aggregate) (i : ℕ) (x : Aggregate) (rows : List (List Value)) (out : List Value) (v : Value) (o : Result (List Value) ℕ)
    → i < length xs → x ≡ get_or xs i x → aggregate_value (function_in (view_aggregate x)) (column_at rows i) ≡ Ok v
    → formed_left (drop i xs) i rows out ≡ o → formed_left (drop (i + 1) xs) (i + 1) rows (out ++ v ∷ []) ≡ o
formed_more xs i x rows out v o within is h before =
    formed_again (drop (i + 1) xs) i rows (out ++ v ∷ []) ∙ sym (formed_here xs i x rows out v within is h) ∙ before

pub formed_fail : (xs : List Aggregate) (i : ℕ) (x : Aggregate) (rows : List (List Value)) (out : List Value) (code : ℕ) (o : Result (List Value) ℕ)
    → i < length xs → x ≡ get_or xs i x → aggregate_value (function_in (view_aggregate x)) (column_at rows i) ≡ Err code
    → formed_left (drop i xs) i rows out ≡ o → o ≡ Err code
formed_fail xs i x rows out code o within is h before =
    sym before ∙ formed_next xs i x rows out within is ∙ (rw h (fails_behind (formed_values (functions_of (view_aggregates (drop (i + 1) xs))) (suc i) rows) out code))

pub formed_end : (xs : List Aggregate) (i : ℕ) (rows : List (List Value)) (out : List Value) (o : Result (List Value) ℕ)
    → length xs ≤ i → formed_left (drop i xs) i rows out ≡ o → o ≡ Ok out
unfolding formed_left
formed_end xs i rows out o past before =
    sym before ∙ ap (λ (ys : List Aggregate). behind_out out (formed_values (functions_of (view_aggregates ys)) i rows)) (drop_all i xs past)
    ∙ ap (λ (ys : List Value). Ok ys) (append-nil out)

pub ruleset formed_lists = (formed_start, formed_more, formed_fail, formed_end)
