-- Answers that leave the scene, and actions behind them.
use Rattle.std.proofs.Common.{◌≡◌, ℕ, ap, subst, sym, Result, Ok, Err}
use Rattle.val_types.specs.declared.refusal.SqlRefusal.{SqlRefusal}
use Rattle.val_types.specs.declared.refusal.SqlRefusal.TheVariants.{Sql}
use Rattle.sql_statements.specs.sql_meaning.Scenes.{Scene, Ending, Action, failed, then_do, ◌>>=◌}
use Rattle.exec_state.specs.Stage.{EndsAs, EndsAsBy}
use Rattle.sql_evaluation.specs.Seen.{Anywhere}

-- what stands behind an answer
pub behind : {A B : Type 0} (m : Action A) (a : A) (next : A → Action B) (scene : Scene) → Anywhere (Ok a) m → (m >>= next) scene ≡ next a scene
behind m a next scene h = ap (λ (x : Ending _). then_do x next) (h.ends scene)

pub refused : {A B : Type 0} (m : Action A) (code : ℕ) (next : A → Action B) (scene : Scene) → Anywhere {A = A} (Err (Sql code)) m → (m >>= next) scene ≡ failed code scene
refused m code next scene h = ap (λ (x : Ending _). then_do x next) (h.ends scene)

-- an answer to the same ending
pub ends_so : {A : Type 0} (r : Result A SqlRefusal) (after : Scene) (x y : Ending A) → x ≡ y → EndsAs r after y → EndsAs r after x
ends_so r after x y same h = subst (λ (e : Ending _). EndsAs r after e) (sym same) h

pub ends_so_by : {A B : Type 0} (view : A → B) (r : Result A SqlRefusal) (after : Scene) (x y : Ending B) → x ≡ y → EndsAsBy view r after y → EndsAsBy view r after x
ends_so_by view r after x y same h = subst (λ (e : Ending _). EndsAsBy view r after e) (sym same) h

-- two actions that do the same
pub record Same {A : Type 0} (m n : Action A) : Type 0 where
  pub same : (scene : Scene) → m scene ≡ n scene
