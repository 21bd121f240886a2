-- Loops, one item at a time: what is left does, from here, what all did from the start.
use Rattle.std.proofs.Common.{◌≡◌, ℕ, suc, ◌+◌, ◌<◌, ◌≤◌, List, [], ◌∷◌, ◌++◌, length, get_or, drop, refl, sym, ap, ◌∙◌, append_assoc, append-nil, add-one, drop-cons}
use Rattle.std.proofs.lemmas.List.{drop_all}
use Rattle.val_types.specs.declared.value.Value.{Value}
use Rattle.sql_tree.specs.declared.expressions.Expr.{Expr}
use Rattle.sql_tree.specs.Tree.{Trees}
use Rattle.sql_tree.specs.View.{view_tree, view_trees}
use Rattle.key_order.specs.where_candidates.session_ctx.sql_meaning.Scenes.{Scene, Ending, Action, done, failed, then_do, pure, each, ◌>>=◌}
use Rattle.key_order.specs.where_candidates.session_ctx.sql_meaning.Frames.{World, Frame}
use Rattle.key_order.specs.where_candidates.session_ctx.sql_meaning.Values.{value, values}

-- ---- each

-- the rest put behind an item and what stands before
put_behind : {B : Type 0} (e : Ending (List B)) (out : List B) (b : B)
    → then_do (then_do e (λ bs. pure (b ∷ bs))) (λ bs. pure (out ++ bs)) ≡ then_do e (λ bs. pure ((out ++ b ∷ []) ++ bs))
put_behind (done bs scene) out b = ap (λ (xs : List _). done xs scene) (sym (append_assoc out (b ∷ []) bs))
put_behind (failed code scene) out b = refl

nothing_before : {B : Type 0} (e : Ending (List B)) → then_do e (λ bs. pure ([] ++ bs)) ≡ e
nothing_before (done bs scene) = refl
nothing_before (failed code scene) = refl

-- what is left of the items, behind what the first ones gave
abbrev pub rest_of : {A B : Type 0} → (A → Action B) → List A → List B → Scene → Ending (List B)
rest_of f xs out scene = then_do (each f xs scene) (λ bs. pure (out ++ bs))

pub each_starts : {A B : Type 0} (f : A → Action B) (xs : List A) (scene : Scene) → rest_of f xs [] scene ≡ each f xs scene
each_starts f xs scene = nothing_before (each f xs scene)

each_first : {A B : Type 0} (f : A → Action B) (x : A) (xs : List A) (out : List B) (b : B) (scene next : Scene)
    → f x scene ≡ done b next → rest_of f (x ∷ xs) out scene ≡ rest_of f xs (out ++ b ∷ []) next
each_first f x xs out b scene next h = rw h (put_behind (each f xs next) out b)

pub each_more : {A B : Type 0} (f : A → Action B) (xs : List A) (i : ℕ) (x : A) (out : List B) (b : B) (scene next : Scene) (o : Ending (List B))
    → i < length xs → x ≡ get_or xs i x → f x scene ≡ done b next
    → rest_of f (drop i xs) out scene ≡ o → rest_of f (drop (i + 1) xs) (out ++ b ∷ []) next ≡ o
each_more f xs i x out b scene next o within is h before =
    rw add-one (sym (each_first f x (drop (suc i) xs) out b scene next h) ∙ ap (λ (ys : List _). rest_of f ys out scene) (sym (drop-cons xs i x within ∙ ap (λ y. y ∷ drop (suc i) xs) (sym is))) ∙ before)

pub each_fails : {A B : Type 0} (f : A → Action B) (xs : List A) (i : ℕ) (x : A) (out : List B) (code : ℕ) (scene next : Scene) (o : Ending (List B))
    → i < length xs → x ≡ get_or xs i x → f x scene ≡ failed code next
    → rest_of f (drop i xs) out scene ≡ o → o ≡ failed code next
each_fails f xs i x out code scene next o within is h before =
    sym before ∙ ap (λ (ys : List _). rest_of f ys out scene) (drop-cons xs i x within ∙ ap (λ y. y ∷ drop (suc i) xs) (sym is)) ∙ (rw h refl)

pub each_ends : {A B : Type 0} (f : A → Action B) (xs : List A) (i : ℕ) (out : List B) (scene : Scene) (o : Ending (List B))
    → length xs ≤ i → rest_of f (drop i xs) out scene ≡ o → o ≡ done out scene
each_ends f xs i out scene o past before =
    sym before ∙ ap (λ (ys : List _). rest_of f ys out scene) (drop_all i xs past) ∙ ap (λ (ys : List _). done ys scene) (append-nil out)

-- ---- the values of expressions are each their value

pub values_each : (world : World) (frame : Frame) (es : List Expr) (scene : Scene) → each (λ e. value world frame (view_tree e)) es scene ≡ values world frame (view_trees es) scene
values_each world frame [] scene = refl
values_each world frame (e ∷ es) scene = behind_first (value world frame (view_tree e) scene) (λ v next. values_each world frame es next)
  where
    behind_first : (x : Ending Value) → ((v : Value) (next : Scene) → each (λ e. value world frame (view_tree e)) es next ≡ values world frame (view_trees es) next)
        → then_do x (λ v. each (λ e. value world frame (view_tree e)) es >>= λ vs. pure (v ∷ vs)) ≡ then_do x (λ v. values world frame (view_trees es) >>= λ vs. pure (v ∷ vs))
    behind_first (done v next) same = ap (λ (y : Ending (List Value)). then_do y (λ vs. pure (v ∷ vs))) (same v next)
    behind_first (failed code next) same = refl

-- the values of what is left, behind those of the first ones
unfoldable pub values_behind : World → Frame → Trees → List Value → Scene → Ending (List Value)
values_behind world frame ts out scene = then_do (values world frame ts scene) (λ vs. pure (out ++ vs))

behind_each : (world : World) (frame : Frame) (es : List Expr) (out : List Value) (scene : Scene)
    → values_behind world frame (view_trees es) out scene ≡ rest_of (λ e. value world frame (view_tree e)) es out scene
unfolding values_behind
behind_each world frame es out scene = ap (λ (x : Ending (List Value)). then_do x (λ vs. pure (out ++ vs))) (sym (values_each world frame es scene))

pub values_start : (world : World) (frame : Frame) (ts : Trees) (scene : Scene) → values_behind world frame ts [] scene ≡ values world frame ts scene
unfolding values_behind
values_start world frame ts scene = nothing_before (values world frame ts scene)

pub values_more : (world : World) (frame : Frame) (es : List Expr) (i : ℕ) (e : Expr) (out : List Value) (v : Value) (scene next : Scene) (o : Ending (List Value))
    → i < length es → e ≡ get_or es i e → value world frame (view_tree e) scene ≡ done v next
    → values_behind world frame (view_trees (drop i es)) out scene ≡ o
    → values_behind world frame (view_trees (drop (i + 1) es)) (out ++ v ∷ []) next ≡ o
values_more world frame es i e out v scene next o within is h before =
    behind_each world frame (drop (i + 1) es) (out ++ v ∷ []) next
    ∙ each_more (λ e. value world frame (view_tree e)) es i e out v scene next o within is h (sym (behind_each world frame (drop i es) out scene) ∙ before)

pub values_fail : (world : World) (frame : Frame) (es : List Expr) (i : ℕ) (e : Expr) (out : List Value) (code : ℕ) (scene next : Scene) (o : Ending (List Value))
    → i < length es → e ≡ get_or es i e → value world frame (view_tree e) scene ≡ failed code next
    → values_behind world frame (view_trees (drop i es)) out scene ≡ o → o ≡ failed code next
values_fail world frame es i e out code scene next o within is h before =
    each_fails (λ e. value world frame (view_tree e)) es i e out code scene next o within is h (sym (behind_each world frame (drop i es) out scene) ∙ before)

pub values_end : (world : World) (frame : Frame) (es : List Expr) (i : ℕ) (out : List Value) (scene : Scene) (o : Ending (List Value))
    → length es ≤ i → values_behind world frame (view_trees (drop i es)) out scene ≡ o → o ≡ done out scene
values_end world frame es i out scene o past before =
    each_ends (λ e. value world frame (view_tree e)) es i out scene o past (sym (behind_each world frame (drop i es) out scene) ∙ before)

pub ruleset each_values = (values_start, values_more, values_fail, values_end)
