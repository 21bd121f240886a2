-- Loops over rows, one at a time: what is left does, from here, what all did from the start.
use Rattle.std.proofs.Common.{◌≡◌, ℕ, ◌+◌, ◌<◌, ◌≤◌, List, ◌∷◌, length, get_or, drop, refl, sym, ap, ◌∙◌, arith}
use Rattle.std.proofs.lemmas.List.{drop_all}
use Rattle.changed_rows.specs.sql_meaning.Scenes.{Scene, Ending, Action, done, failed, then_do, pure, each, counted, carried_on}
use Rattle.changed_rows.proofs.of_sql_evaluation.Branching.{rest_is}

-- ---- an action that hands a state on

pub carried_more : {S A : Type 0} (f : S → A → Action S) (s s' : S) (xs : List A) (i : ℕ) (x : A) (scene next : Scene) (o : Ending S)
    → i < length xs → x ≡ get_or xs i x → f s x scene ≡ done s' next → carried_on f s (drop i xs) scene ≡ o → carried_on f s' (drop (i + 1) xs) next ≡ o
carried_more f s s' xs i x scene next o within is h before =
    sym (ap (λ (ys : List _). carried_on f s ys scene) (rest_is xs i x within is) ∙ (rw h refl)) ∙ before

pub carried_fails : {S A : Type 0} (f : S → A → Action S) (s : S) (xs : List A) (i : ℕ) (x : A) (code : ℕ) (scene next : Scene) (o : Ending S)
    → i < length xs → x ≡ get_or xs i x → f s x scene ≡ failed code next → carried_on f s (drop i xs) scene ≡ o → o ≡ failed code next
carried_fails f s xs i x code scene next o within is h before =
    sym before ∙ ap (λ (ys : List _). carried_on f s ys scene) (rest_is xs i x within is) ∙ (rw h refl)

pub carried_ends : {S A : Type 0} (f : S → A → Action S) (s : S) (xs : List A) (i : ℕ) (scene : Scene) (o : Ending S)
    → length xs ≤ i → carried_on f s (drop i xs) scene ≡ o → o ≡ done s scene
carried_ends f s xs i scene o past before = sym before ∙ ap (λ (ys : List _). carried_on f s ys scene) (drop_all i xs past)

-- ---- counts that are added up

-- what the rest counts, behind what the first ones did
abbrev pub count_left : {A : Type 0} → (A → Action ℕ) → List A → ℕ → Scene → Ending ℕ
count_left f xs n scene = then_do (counted f xs scene) (λ m. pure (n + m))

pub count_starts : {A : Type 0} (f : A → Action ℕ) (xs : List A) (scene : Scene) → count_left f xs 0 scene ≡ counted f xs scene
count_starts f xs scene = nothing (counted f xs scene)
  where
    nothing : (e : Ending ℕ) → then_do e (λ m. pure (0 + m)) ≡ e
    nothing (done m s) = let same : 0 + m ≡ m = grind arith in ap (λ (x : ℕ). done x s) same
    nothing (failed code s) = refl

added : (n k : ℕ) (e : Ending ℕ) → then_do (then_do e (λ m. pure (k + m))) (λ m. pure (n + m)) ≡ then_do e (λ m. pure ((n + k) + m))
added n k (done m s) = let same : n + (k + m) ≡ (n + k) + m = grind arith in ap (λ (x : ℕ). done x s) same
added n k (failed code s) = refl

pub count_more : {A : Type 0} (f : A → Action ℕ) (xs : List A) (i : ℕ) (x : A) (n k : ℕ) (scene next : Scene) (o : Ending ℕ)
    → i < length xs → x ≡ get_or xs i x → f x scene ≡ done k next → count_left f (drop i xs) n scene ≡ o → count_left f (drop (i + 1) xs) (n + k) next ≡ o
count_more f xs i x n k scene next o within is h before =
    sym (ap (λ (ys : List _). count_left f ys n scene) (rest_is xs i x within is) ∙ (rw h (added n k (counted f (drop (i + 1) xs) next)))) ∙ before

pub count_fails : {A : Type 0} (f : A → Action ℕ) (xs : List A) (i : ℕ) (x : A) (n code : ℕ) (scene next : Scene) (o : Ending ℕ)
    → i < length xs → x ≡ get_or xs i x → f x scene ≡ failed code next → count_left f (drop i xs) n scene ≡ o → o ≡ failed code next
count_fails f xs i x n code scene next o within is h before =
    sym before ∙ ap (λ (ys : List _). count_left f ys n scene) (rest_is xs i x within is) ∙ (rw h refl)

pub count_ends : {A : Type 0} (f : A → Action ℕ) (xs : List A) (i : ℕ) (n : ℕ) (scene : Scene) (o : Ending ℕ)
    → length xs ≤ i → count_left f (drop i xs) n scene ≡ o → o ≡ done n scene
count_ends f xs i n scene o past before =
    let same : n + 0 ≡ n = grind arith in
    sym before ∙ ap (λ (ys : List _). count_left f ys n scene) (drop_all i xs past) ∙ ap (λ (m : ℕ). done m scene) same

-- ---- an action on each whose answers are dropped

abbrev pub each_left : {A B C : Type 0} → (A → Action B) → List A → C → Scene → Ending C
each_left f xs c scene = then_do (each f xs scene) (λ bs. pure c)

dropped : {B C : Type 0} (b : B) (c : C) (e : Ending (List B)) → then_do (then_do e (λ bs. pure (b ∷ bs))) (λ bs. pure c) ≡ then_do e (λ bs. pure c)
dropped b c (done bs s) = refl
dropped b c (failed code s) = refl

pub each_on : {A B C : Type 0} (f : A → Action B) (xs : List A) (i : ℕ) (x : A) (b : B) (c : C) (scene next : Scene) (o : Ending C)
    → i < length xs → x ≡ get_or xs i x → f x scene ≡ done b next → each_left f (drop i xs) c scene ≡ o → each_left f (drop (i + 1) xs) c next ≡ o
each_on f xs i x b c scene next o within is h before =
    sym (ap (λ (ys : List _). each_left f ys c scene) (rest_is xs i x within is) ∙ (rw h (dropped b c (each f (drop (i + 1) xs) next)))) ∙ before

pub each_stops : {A B C : Type 0} (f : A → Action B) (xs : List A) (i : ℕ) (x : A) (c : C) (code : ℕ) (scene next : Scene) (o : Ending C)
    → i < length xs → x ≡ get_or xs i x → f x scene ≡ failed code next → each_left f (drop i xs) c scene ≡ o → o ≡ failed code next
each_stops f xs i x c code scene next o within is h before =
    sym before ∙ ap (λ (ys : List _). each_left f ys c scene) (rest_is xs i x within is) ∙ (rw h refl)

pub each_is_done : {A B C : Type 0} (f : A → Action B) (xs : List A) (i : ℕ) (c : C) (scene : Scene) (o : Ending C)
    → length xs ≤ i → each_left f (drop i xs) c scene ≡ o → o ≡ done c scene
each_is_done f xs i c scene o past before = sym before ∙ ap (λ (ys : List _). each_left f ys c scene) (drop_all i xs past)
