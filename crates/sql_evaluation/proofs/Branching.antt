-- Conditions, IN, CASE, IF, IFNULL and COALESCE, one step at a time.
use Rattle.std.proofs.Common.{◌≡◌, ℕ, suc, ◌+◌, ◌<◌, ◌≤◌, List, ◌∷◌, Bool, true, false, cond, Option, Some, None, length, get_or, drop, refl, sym, ap, ◌∙◌, add-one, drop-cons, subst, Result, Ok, Err}
use Rattle.std.specs.declared.cmp.Ordering.{Ordering}
use Rattle.std.specs.Ordering.{is_eq}
use Rattle.std.proofs.lemmas.List.{drop_all}
use Rattle.val_types.specs.declared.value.Value.{Value}
use Rattle.val_types.specs.declared.value.Value.TheVariants.{Null}
use Rattle.val_types.specs.declared.ops.Func2.{Func2}
use Rattle.val_types.specs.declared.ops.Func3.{Func3}
use Rattle.val_types.specs.declared.ops.FuncN.{FuncN}
use Rattle.val_types.specs.Fitting.{is_null}
use Rattle.sql_tree.specs.declared.expressions.Expr.{Expr}
use Rattle.sql_tree.specs.declared.expressions.Arm.{Arm, out-Arm}
use Rattle.sql_tree.specs.declared.expressions.Aggregate.TheFolds.{fold_out-Arm}
use Rattle.sql_tree.specs.Tree.{Tree, Trees, Arms, Part, arm, tree, no_tree, Query, Selected, Origin}
use Rattle.val_types.specs.declared.ops.Agg.{Agg}
use Rattle.sql_tree.specs.BuiltIns.{on_many, on_two, on_three}
use Rattle.sql_tree.specs.View.{view_tree, view_trees, view_arms, view_arm, aggregate_step, tree_step, selected_step, arm_step, origin_step, order_step, query_step}
use Rattle.value_rules.specs.Operators.{truth_of, comparison}
use Rattle.value_rules.specs.Functions.{is_known_true}
use Rattle.key_order.specs.where_candidates.session_ctx.sql_meaning.Scenes.{Scene, Ending, Action, done, failed, then_do, pure, answered, ◌>>=◌}
use Rattle.key_order.specs.where_candidates.session_ctx.sql_meaning.Values.{holds, found_or, value_of_arms, first_known_of, value_at}
use Rattle.val_types.specs.declared.refusal.SqlRefusal.{SqlRefusal}
use Rattle.val_types.specs.declared.refusal.SqlRefusal.TheVariants.{Sql, NoMemory}
use Rattle.exec_state.specs.Stage.{EndsAs}
use Rattle.sql_evaluation.proofs.Steps.{stage_on_twice}
use Rattle.sql_evaluation.specs.declared.world.View.{View as Shown}
use Rattle.sql_evaluation.specs.declared.world.Around.{Around}
use Rattle.sql_evaluation.specs.Seen.{value_in, holds_in, compared_in, found_in, part_in, is_true, world_of, frame_of}

-- the first of what is left
pub rest_is : {A : Type 0} (xs : List A) (i : ℕ) (x : A) → i < length xs → x ≡ get_or xs i x → drop i xs ≡ x ∷ drop (i + 1) xs
rest_is xs i x within is = rw add-one (drop-cons xs i x within ∙ ap (λ y. y ∷ drop (suc i) xs) (sym is))

-- one action after two is the second one after the first
pub then_then : {A B C : Type 0} (e : Ending A) (f : A → Action B) (g : B → Action C) → then_do (then_do e f) g ≡ then_do e (λ a. f a >>= g)
then_then (done a scene) f g = refl
then_then (failed code scene) f g = refl

-- ---- conditions

true_is : (v : Value) (b : Bool) (scene : Scene) → is_true v ≡ Ok b → holds v scene ≡ done b scene
true_is v b scene h = of_truth (truth_of v) h
  where
    of_truth : (r : Result (Option Bool) ℕ) → Rattle.value_rules.specs.Operators.with_value is_known_true r ≡ Ok b → then_do (answered r scene) (λ t. pure (is_known_true t)) ≡ done b scene
    of_truth (Ok t) e = let same : is_known_true t ≡ b = cc in rw same refl
    of_truth (Err code) e = cc

true_fails : (v : Value) (code : ℕ) (scene : Scene) → is_true v ≡ Err code → holds v scene ≡ failed code scene
true_fails v code scene h = of_truth (truth_of v) h
  where
    of_truth : (r : Result (Option Bool) ℕ) → Rattle.value_rules.specs.Operators.with_value is_known_true r ≡ Err code → then_do (answered r scene) (λ t. pure (is_known_true t)) ≡ failed code scene
    of_truth (Ok t) e = cc
    of_truth (Err c) e = let same : c ≡ code = cc in rw same refl

pub holds_is : (a : Around) (vs : List Shown) (t : Tree) (v : Value) (b : Bool) (scene next : Scene)
    → value_in a vs t scene ≡ done v next → is_true v ≡ Ok b → holds_in a vs t scene ≡ done b next
holds_is a vs t v b scene next h e = rw h (true_is v b next e)

pub holds_fails : (a : Around) (vs : List Shown) (t : Tree) (v : Value) (code : ℕ) (scene next : Scene)
    → value_in a vs t scene ≡ done v next → is_true v ≡ Err code → holds_in a vs t scene ≡ failed code next
holds_fails a vs t v code scene next h e = rw h (true_fails v code next e)

pub ruleset conditions = (holds_is, holds_fails)

-- ---- IN

unfoldable pub found_left : Around → List Shown → Value → Option Bool → Trees → Scene → Ending (Option Bool)
found_left a vs x so_far ts scene = found_in a vs x so_far ts scene

found_first : (a : Around) (vs : List Shown) (x : Value) (so_far : Option Bool) (t : Tree) (ts : Trees) (scene : Scene)
    → found_in a vs x so_far (tree t ts) scene ≡ then_do (compared_in a vs x t scene) (λ order. found_or order (found_in a vs x None ts) (found_in a vs x so_far ts))
found_first a vs x so_far t ts scene =
    sym (then_then (value_in a vs t scene) (λ y. answered (comparison x y)) (λ order. found_or order (found_in a vs x None ts) (found_in a vs x so_far ts)))

found_next : (a : Around) (vs : List Shown) (x : Value) (so_far : Option Bool) (es : List Expr) (i : ℕ) (e : Expr) (scene : Scene)
    → i < length es → e ≡ get_or es i e
    → found_left a vs x so_far (view_trees (drop i es)) scene
    ≡ then_do (compared_in a vs x (view_tree e) scene) (λ order. found_or order (found_in a vs x None (view_trees (drop (i + 1) es))) (found_in a vs x so_far (view_trees (drop (i + 1) es))))
unfolding found_left
found_next a vs x so_far es i e scene within is =
    ap (λ (ys : List Expr). found_in a vs x so_far (view_trees ys) scene) (rest_is es i e within is)
    ∙ found_first a vs x so_far (view_tree e) (view_trees (drop (i + 1) es)) scene

pub found_start : (a : Around) (vs : List Shown) (x : Value) (ts : Trees) (scene : Scene) → found_left a vs x (Some false) ts scene ≡ found_in a vs x (Some false) ts scene
unfolding found_left
found_start a vs x ts scene = refl

pub found_unknown : (a : Around) (vs : List Shown) (x : Value) (so_far : Option Bool) (es : List Expr) (i : ℕ) (e : Expr) (scene next : Scene) (o : Ending (Option Bool))
    → i < length es → e ≡ get_or es i e → compared_in a vs x (view_tree e) scene ≡ done None next
    → found_left a vs x so_far (view_trees (drop i es)) scene ≡ o → found_left a vs x None (view_trees (drop (i + 1) es)) next ≡ o
unfolding found_left
found_unknown a vs x so_far es i e scene next o within is h before =
    sym (found_next a vs x so_far es i e scene within is ∙ (rw h refl)) ∙ before

pub found_other : (a : Around) (vs : List Shown) (x : Value) (so_far : Option Bool) (es : List Expr) (i : ℕ) (e : Expr) (order : Ordering) (scene next : Scene) (o : Ending (Option Bool))
    → i < length es → e ≡ get_or es i e → compared_in a vs x (view_tree e) scene ≡ done (Some order) next → is_eq order ≡ false
    → found_left a vs x so_far (view_trees (drop i es)) scene ≡ o → found_left a vs x so_far (view_trees (drop (i + 1) es)) next ≡ o
unfolding found_left
found_other a vs x so_far es i e order scene next o within is h other before =
    sym (found_next a vs x so_far es i e scene within is ∙ (rw (h, other) refl)) ∙ before

pub found_equal : (a : Around) (vs : List Shown) (x : Value) (so_far : Option Bool) (es : List Expr) (i : ℕ) (e : Expr) (order : Ordering) (scene next : Scene) (o : Ending (Option Bool))
    → i < length es → e ≡ get_or es i e → compared_in a vs x (view_tree e) scene ≡ done (Some order) next → is_eq order ≡ true
    → found_left a vs x so_far (view_trees (drop i es)) scene ≡ o → o ≡ done (Some true) next
found_equal a vs x so_far es i e order scene next o within is h equal before =
    sym before ∙ found_next a vs x so_far es i e scene within is ∙ (rw (h, equal) refl)

pub found_fail : (a : Around) (vs : List Shown) (x : Value) (so_far : Option Bool) (es : List Expr) (i : ℕ) (e : Expr) (code : ℕ) (scene next : Scene) (o : Ending (Option Bool))
    → i < length es → e ≡ get_or es i e → compared_in a vs x (view_tree e) scene ≡ failed code next
    → found_left a vs x so_far (view_trees (drop i es)) scene ≡ o → o ≡ failed code next
found_fail a vs x so_far es i e code scene next o within is h before =
    sym before ∙ found_next a vs x so_far es i e scene within is ∙ (rw h refl)

pub found_end : (a : Around) (vs : List Shown) (x : Value) (so_far : Option Bool) (es : List Expr) (i : ℕ) (scene : Scene) (o : Ending (Option Bool))
    → length es ≤ i → found_left a vs x so_far (view_trees (drop i es)) scene ≡ o → o ≡ done so_far scene
unfolding found_left
found_end a vs x so_far es i scene o past before =
    sym before ∙ ap (λ (ys : List Expr). found_in a vs x so_far (view_trees ys) scene) (drop_all i es past)

pub ruleset found = (found_start, found_unknown, found_other, found_equal, found_fail, found_end)

-- ---- CASE

arm_of_out : (x : Arm) → view_arm x ≡ (view_tree (out-Arm x).condition, view_tree (out-Arm x).value)
arm_of_out x = fold_out-Arm (Option (Agg × Tree)) Tree Selected (Tree × Tree) Origin (Tree × Bool) Query aggregate_step tree_step selected_step arm_step origin_step order_step query_step x

unfoldable pub arms_left : Around → List Shown → Arms → Part → Scene → Ending Value
arms_left a vs arms p scene = value_of_arms (world_of a) (frame_of a vs) arms (part_in a vs p) scene

arms_first : (a : Around) (vs : List Shown) (c v : Tree) (arms : Arms) (p : Part) (scene : Scene)
    → value_of_arms (world_of a) (frame_of a vs) (arm c v arms) (part_in a vs p) scene
    ≡ then_do (holds_in a vs c scene) (λ is_true. cond is_true (value_in a vs v) (value_of_arms (world_of a) (frame_of a vs) arms (part_in a vs p)))
arms_first a vs c v arms p scene =
    sym (then_then (value_in a vs c scene) holds (λ is_true. cond is_true (value_in a vs v) (value_of_arms (world_of a) (frame_of a vs) arms (part_in a vs p))))

arms_next : (a : Around) (vs : List Shown) (xs : List Arm) (p : Part) (i : ℕ) (x : Arm) (scene : Scene)
    → i < length xs → x ≡ get_or xs i x
    → arms_left a vs (view_arms (drop i xs)) p scene
    ≡ then_do (holds_in a vs (view_tree (out-Arm x).condition) scene) (λ is_true. cond is_true (value_in a vs (view_tree (out-Arm x).value)) (value_of_arms (world_of a) (frame_of a vs) (view_arms (drop (i + 1) xs)) (part_in a vs p)))
unfolding arms_left
arms_next a vs xs p i x scene within is =
    ap (λ (ys : List Arm). value_of_arms (world_of a) (frame_of a vs) (view_arms ys) (part_in a vs p) scene) (rest_is xs i x within is)
    ∙ ap (λ (y : Tree × Tree). value_of_arms (world_of a) (frame_of a vs) (arm y.0 y.1 (view_arms (drop (i + 1) xs))) (part_in a vs p) scene) (arm_of_out x)
    ∙ arms_first a vs (view_tree (out-Arm x).condition) (view_tree (out-Arm x).value) (view_arms (drop (i + 1) xs)) p scene

pub arms_start : (a : Around) (vs : List Shown) (arms : Arms) (p : Part) (scene : Scene) → arms_left a vs arms p scene ≡ value_in a vs (Rattle.sql_tree.specs.Tree.choice arms p) scene
unfolding arms_left
arms_start a vs arms p scene = refl

pub arms_skip : (a : Around) (vs : List Shown) (xs : List Arm) (p : Part) (i : ℕ) (x : Arm) (scene next : Scene) (o : Ending Value)
    → i < length xs → x ≡ get_or xs i x → holds_in a vs (view_tree (out-Arm x).condition) scene ≡ done false next
    → arms_left a vs (view_arms (drop i xs)) p scene ≡ o → arms_left a vs (view_arms (drop (i + 1) xs)) p next ≡ o
unfolding arms_left
arms_skip a vs xs p i x scene next o within is h before = sym (arms_next a vs xs p i x scene within is ∙ (rw h refl)) ∙ before

pub arms_take : (a : Around) (vs : List Shown) (xs : List Arm) (p : Part) (i : ℕ) (x : Arm) (scene next : Scene) (o z : Ending Value)
    → i < length xs → x ≡ get_or xs i x → holds_in a vs (view_tree (out-Arm x).condition) scene ≡ done true next
    → value_in a vs (view_tree (out-Arm x).value) next ≡ z
    → arms_left a vs (view_arms (drop i xs)) p scene ≡ o → o ≡ z
arms_take a vs xs p i x scene next o z within is h given before = sym before ∙ arms_next a vs xs p i x scene within is ∙ (rw h given)

pub arms_fail : (a : Around) (vs : List Shown) (xs : List Arm) (p : Part) (i : ℕ) (x : Arm) (code : ℕ) (scene next : Scene) (o : Ending Value)
    → i < length xs → x ≡ get_or xs i x → holds_in a vs (view_tree (out-Arm x).condition) scene ≡ failed code next
    → arms_left a vs (view_arms (drop i xs)) p scene ≡ o → o ≡ failed code next
arms_fail a vs xs p i x code scene next o within is h before = sym before ∙ arms_next a vs xs p i x scene within is ∙ (rw h refl)

pub arms_end : (a : Around) (vs : List Shown) (xs : List Arm) (p : Part) (i : ℕ) (scene : Scene) (o z : Ending Value)
    → length xs ≤ i → part_in a vs p scene ≡ z → arms_left a vs (view_arms (drop i xs)) p scene ≡ o → o ≡ z
unfolding arms_left
arms_end a vs xs p i scene o z past given before =
    sym before ∙ ap (λ (ys : List Arm). value_of_arms (world_of a) (frame_of a vs) (view_arms ys) (part_in a vs p) scene) (drop_all i xs past) ∙ given

pub arms_take_ends : (a : Around) (vs : List Shown) (xs : List Arm) (p : Part) (i : ℕ) (x : Arm) (r : Result Value SqlRefusal) (scene next last : Scene) (o : Ending Value)
    → i < length xs → x ≡ get_or xs i x → holds_in a vs (view_tree (out-Arm x).condition) scene ≡ done true next
    → EndsAs r last (value_in a vs (view_tree (out-Arm x).value) next)
    → arms_left a vs (view_arms (drop i xs)) p scene ≡ o → EndsAs r last o
arms_take_ends a vs xs p i x r scene next last o within is h given before =
    subst (λ (y : Ending Value). EndsAs r last y) (sym (arms_take a vs xs p i x scene next o (value_in a vs (view_tree (out-Arm x).value) next) within is h refl before)) given

pub ruleset arms = (arms_start, arms_skip, arms_take_ends, arms_fail, arms_end, stage_on_twice)

-- ---- IF

if_is : (a : Around) (vs : List Shown) (c t u : Tree) (scene : Scene)
    → value_in a vs (on_three Func3.If c t u) scene ≡ then_do (holds_in a vs c scene) (λ is_true. value_at (world_of a) (frame_of a vs) (tree t (tree u no_tree)) (cond is_true 0 1))
if_is a vs c t u scene = sym (then_then (value_in a vs c scene) holds (λ is_true. value_at (world_of a) (frame_of a vs) (tree t (tree u no_tree)) (cond is_true 0 1)))

pub if_then : (a : Around) (vs : List Shown) (c t u : Tree) (scene next : Scene) (z : Ending Value)
    → holds_in a vs c scene ≡ done true next → value_in a vs t next ≡ z → value_in a vs (on_three Func3.If c t u) scene ≡ z
if_then a vs c t u scene next z h given = if_is a vs c t u scene ∙ (rw h given)

pub if_else : (a : Around) (vs : List Shown) (c t u : Tree) (scene next : Scene) (z : Ending Value)
    → holds_in a vs c scene ≡ done false next → value_in a vs u next ≡ z → value_in a vs (on_three Func3.If c t u) scene ≡ z
if_else a vs c t u scene next z h given = if_is a vs c t u scene ∙ (rw h given)

pub if_fails : (a : Around) (vs : List Shown) (c t u : Tree) (code : ℕ) (scene next : Scene)
    → holds_in a vs c scene ≡ failed code next → value_in a vs (on_three Func3.If c t u) scene ≡ failed code next
if_fails a vs c t u code scene next h = if_is a vs c t u scene ∙ (rw h refl)

-- the same of answers
pub ends_through : {A : Type 0} (r : Result A SqlRefusal) (scene : Scene) (o z : Ending A) → o ≡ z → EndsAs r scene z → EndsAs r scene o
ends_through r scene o z e given = subst (λ (y : Ending _). EndsAs r scene y) (sym e) given

pub if_then_ends : (a : Around) (vs : List Shown) (c t u : Tree) (r : Result Value SqlRefusal) (scene next last : Scene)
    → holds_in a vs c scene ≡ done true next → EndsAs r last (value_in a vs t next) → EndsAs r last (value_in a vs (on_three Func3.If c t u) scene)
if_then_ends a vs c t u r scene next last h given =
    ends_through r last (value_in a vs (on_three Func3.If c t u) scene) (value_in a vs t next) (if_then a vs c t u scene next (value_in a vs t next) h refl) given

pub if_else_ends : (a : Around) (vs : List Shown) (c t u : Tree) (r : Result Value SqlRefusal) (scene next last : Scene)
    → holds_in a vs c scene ≡ done false next → EndsAs r last (value_in a vs u next) → EndsAs r last (value_in a vs (on_three Func3.If c t u) scene)
if_else_ends a vs c t u r scene next last h given =
    ends_through r last (value_in a vs (on_three Func3.If c t u) scene) (value_in a vs u next) (if_else a vs c t u scene next (value_in a vs u next) h refl) given

pub if_fails_at : (a : Around) (vs : List Shown) (c t u : Tree) (e : SqlRefusal) (scene next : Scene)
    → EndsAs {A = Bool} (Err e) next (holds_in a vs c scene) → EndsAs {A = Value} (Err e) next (value_in a vs (on_three Func3.If c t u) scene)
if_fails_at a vs c t u (Sql code) scene next h = if_fails a vs c t u code scene next h
if_fails_at a vs c t u NoMemory scene next h = tt

-- ---- COALESCE and IFNULL

unfoldable pub known_left : Around → List Shown → Trees → Scene → Ending Value
known_left a vs ts scene = first_known_of (world_of a) (frame_of a vs) ts scene

known_next : (a : Around) (vs : List Shown) (es : List Expr) (i : ℕ) (e : Expr) (scene : Scene) → i < length es → e ≡ get_or es i e
    → known_left a vs (view_trees (drop i es)) scene
    ≡ then_do (value_in a vs (view_tree e) scene) (λ x. cond (is_null x) (first_known_of (world_of a) (frame_of a vs) (view_trees (drop (i + 1) es))) (pure x))
unfolding known_left
known_next a vs es i e scene within is = ap (λ (ys : List Expr). first_known_of (world_of a) (frame_of a vs) (view_trees ys) scene) (rest_is es i e within is)

pub known_start : (a : Around) (vs : List Shown) (ts : Trees) (scene : Scene) → known_left a vs ts scene ≡ value_in a vs (on_many FuncN.Coalesce ts) scene
unfolding known_left
known_start a vs ts scene = refl

pub known_skip : (a : Around) (vs : List Shown) (es : List Expr) (i : ℕ) (e : Expr) (v : Value) (scene next : Scene) (o : Ending Value)
    → i < length es → e ≡ get_or es i e → value_in a vs (view_tree e) scene ≡ done v next → is_null v ≡ true
    → known_left a vs (view_trees (drop i es)) scene ≡ o → known_left a vs (view_trees (drop (i + 1) es)) next ≡ o
unfolding known_left
known_skip a vs es i e v scene next o within is h null before = sym (known_next a vs es i e scene within is ∙ (rw (h, null) refl)) ∙ before

pub known_take : (a : Around) (vs : List Shown) (es : List Expr) (i : ℕ) (e : Expr) (v : Value) (scene next : Scene) (o : Ending Value)
    → i < length es → e ≡ get_or es i e → value_in a vs (view_tree e) scene ≡ done v next → is_null v ≡ false
    → known_left a vs (view_trees (drop i es)) scene ≡ o → o ≡ done v next
known_take a vs es i e v scene next o within is h known before = sym before ∙ known_next a vs es i e scene within is ∙ (rw (h, known) refl)

pub known_fail : (a : Around) (vs : List Shown) (es : List Expr) (i : ℕ) (e : Expr) (code : ℕ) (scene next : Scene) (o : Ending Value)
    → i < length es → e ≡ get_or es i e → value_in a vs (view_tree e) scene ≡ failed code next
    → known_left a vs (view_trees (drop i es)) scene ≡ o → o ≡ failed code next
known_fail a vs es i e code scene next o within is h before = sym before ∙ known_next a vs es i e scene within is ∙ (rw h refl)

pub known_end : (a : Around) (vs : List Shown) (es : List Expr) (i : ℕ) (scene : Scene) (o : Ending Value)
    → length es ≤ i → known_left a vs (view_trees (drop i es)) scene ≡ o → o ≡ done Null scene
unfolding known_left
known_end a vs es i scene o past before =
    sym before ∙ ap (λ (ys : List Expr). first_known_of (world_of a) (frame_of a vs) (view_trees ys) scene) (drop_all i es past)

pub ruleset known = (known_start, known_skip, known_take, known_fail, known_end)

two_last : (a : Around) (vs : List Shown) (u : Tree) (v : Value) (scene next : Scene)
    → value_in a vs u scene ≡ done v next → first_known_of (world_of a) (frame_of a vs) (tree u no_tree) scene ≡ done v next
two_last a vs u v scene next h = rw h (null_or v)
  where
    null_or : (v : Value) → cond (is_null v) (pure Null) (pure v) next ≡ done v next
    null_or Null = refl
    null_or (Rattle.val_types.specs.declared.value.Value.TheVariants.Int n) = refl
    null_or (Rattle.val_types.specs.declared.value.Value.TheVariants.Text t) = refl

pub two_first : (a : Around) (vs : List Shown) (t u : Tree) (v : Value) (scene next : Scene)
    → value_in a vs t scene ≡ done v next → is_null v ≡ false → value_in a vs (on_two Func2.IfNull t u) scene ≡ done v next
two_first a vs t u v scene next h known = rw (h, known) refl

pub two_second : (a : Around) (vs : List Shown) (t u : Tree) (v w : Value) (scene next last : Scene)
    → value_in a vs t scene ≡ done v next → is_null v ≡ true → value_in a vs u next ≡ done w last → value_in a vs (on_two Func2.IfNull t u) scene ≡ done w last
two_second a vs t u v w scene next last h null given = rw (h, null) (two_last a vs u w next last given)

pub two_fails : (a : Around) (vs : List Shown) (t u : Tree) (v : Value) (code : ℕ) (scene next last : Scene)
    → value_in a vs t scene ≡ done v next → is_null v ≡ true → value_in a vs u next ≡ failed code last → value_in a vs (on_two Func2.IfNull t u) scene ≡ failed code last
two_fails a vs t u v code scene next last h null given = rw (h, null, given) refl

pub ruleset two = (two_first, two_second, two_fails)
