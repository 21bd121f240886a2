-- Rows that are left out.
use Rattle.std.proofs.Common.{◌≡◌, List, [], ◌∷◌, Bool, true, false, cond, refl, ap, ◌∙◌}
use Rattle.std.specs.Prelude.{filter}
use Rattle.val_types.specs.declared.value.Value.{Value}
use Rattle.sql_meaning.specs.Scenes.{Scene, Ending, done, failed, Action, then_do, pure, kept_by, ◌>>=◌}
use Rattle.where_laws.specs.Leaving.{IsQuietlyFalse, RowsMayBeLeftOut}

abbrev Rows : Type 0
Rows = List (List Value)

-- what comes behind a row
behind : (List Value → Action Bool) → List Value → Rows → Bool → Action Rows
behind test row rows keeps = kept_by test rows >>= λ rest. pure (cond keeps (row ∷ rest) rest)

just_the_rest : (e : Ending Rows) → then_do e (λ rest. pure rest) ≡ e
just_the_rest (done rest scene) = refl
just_the_rest (failed code scene) = refl

same_behind : (test : List Value → Action Bool) (row : List Value) (xs ys : Rows) → ((scene : Scene) → kept_by test xs scene ≡ kept_by test ys scene)
    → (e : Ending Bool) → then_do e (λ keeps. kept_by test xs >>= λ rest. pure (cond keeps (row ∷ rest) rest)) ≡ then_do e (λ keeps. kept_by test ys >>= λ rest. pure (cond keeps (row ∷ rest) rest))
same_behind test row xs ys same (done keeps scene) = ap (λ (e : Ending Rows). then_do e (λ rest. pure (cond keeps (row ∷ rest) rest))) (same scene)
same_behind test row xs ys same (failed code scene) = refl

step : (stays : List Value → Bool) (test : List Value → Action Bool) (row : List Value) (rows : Rows) (b : Bool) → (b ≡ false → IsQuietlyFalse (test row))
    → ((scene : Scene) → kept_by test rows scene ≡ kept_by test (filter stays rows) scene) → (scene : Scene)
    → kept_by test (row ∷ rows) scene ≡ kept_by test (cond b (row ∷ filter stays rows) (filter stays rows)) scene
step stays test row rows true quiet same scene = same_behind test row rows (filter stays rows) same (test row scene)
step stays test row rows false quiet same scene =
    ap (λ (e : Ending Bool). then_do e (λ keeps. kept_by test rows >>= λ rest. pure (cond keeps (row ∷ rest) rest))) ((quiet refl).ends scene)
    ∙ just_the_rest (kept_by test rows scene) ∙ same scene

pub left_out : RowsMayBeLeftOut
left_out stays test [] quiet scene = refl
left_out stays test (row ∷ rows) quiet scene = step stays test row rows (stays row) quiet.0 (left_out stays test rows quiet.1) scene
