-- Two actions that are alike, from the actions that they are made of. In which way they are alike is left open: what is shown here
-- and behind it holds of each relation on pairs of actions that is closed under what is in the definitions.
use Rattle.std.proofs.Common.{◌≡◌, ℕ, ◌+◌, List, [], ◌∷◌, Bool, true, false, cond, Option, Some, None, Result, Ok, Err, ℤ, sym, subst}
use Rattle.std.specs.List.{AllByRecursion}
use Rattle.val_types.specs.declared.value.Value.{Value}
use Rattle.val_types.specs.declared.change.Change.{Change}
use Rattle.val_types.specs.declared.definitions.TableDef.{TableDef}
use Rattle.table_rules.specs.Tables.{Table}
use Rattle.sql_reach.specs.sql_meaning.Scenes.{Action, ◌>>=◌, pure, fail, answered, needed, require, each, kept_by, counted, carried_on, make, table_now, counter_now, raise_counter, draw, next_uuid, spend_turn}

-- A way in which two actions may be alike. `random` is whether they may draw, `exact` whether their counters are the same, `changing`
-- whether they may change tables, `Known` what is known of a table that is found under a name.
pub record IsLikeness (P : (A : Type 0) → Action A → Action A → Type 0) (random exact changing : Type 0) (Known : List ℕ → TableDef → Type 0) : Type 1 where
  pub bind : {A B : Type 0} (m m' : Action A) (f f' : A → Action B) → P A m m' → ((x : A) → P B (f x) (f' x)) → P B (m >>= f) (m' >>= f')
  pub value : {A : Type 0} (x : A) → P A (pure x) (pure x)
  pub error : (A : Type 0) (code : ℕ) → P A (fail code) (fail code)
  pub change : changing → (code : ℕ) (change : Change) → P (Unit {0}) (make code change) (make code change)
  pub table : (name : List ℕ) → P Table (table_now name) (table_now name)
  pub found : {A : Type 0} (name : List ℕ) (f f' : Table → Action A) → ((t : Table) → Known name t.definition → P A (f t) (f' t)) → P A (table_now name >>= f) (table_now name >>= f')
  pub named : (name : List ℕ) (d : TableDef) → Known name d → name ≡ d.name
  pub counter : {A : Type 0} (name : List ℕ) (f f' : ℕ → Action A) → ((x y : ℕ) → (exact → y ≡ x) → P A (f x) (f' y)) → P A (counter_now name >>= f) (counter_now name >>= f')
  pub raised : (name : List ℕ) (v : ℤ) → P (Unit {0}) (raise_counter name v) (raise_counter name v)
  pub drawn : random → P ℕ draw draw
  pub uuid : exact → (first : ℕ) → P Value (next_uuid first) (next_uuid first)
  pub spent : P (Unit {0}) spend_turn spend_turn
  pub left : {A : Type 0} (f f' : ℕ → Action A) → ((n : ℕ) → P A (f n) (f' n)) → P A (λ scene. f scene.turns scene) (λ scene. f' scene.turns scene)

module _ {P : (A : Type 0) → Action A → Action A → Type 0} {random exact changing : Type 0} {Known : List ℕ → TableDef → Type 0} (law : IsLikeness P random exact changing Known) where
  pub bind_like : {A B : Type 0} (m m' : Action A) (f f' : A → Action B) → P A m m' → ((x : A) → P B (f x) (f' x)) → P B (m >>= f) (m' >>= f')
  bind_like m m' f f' first rest = law.bind m m' f f' first rest

  pub pure_like : {A : Type 0} (x : A) → P A (pure x) (pure x)
  pure_like x = law.value x

  -- the same by another name
  pub pure_same : {A : Type 0} (x y : A) → y ≡ x → P A (pure x) (pure y)
  pure_same {A = A} x y e = subst (λ (z : A). P A (pure x) (pure z)) (sym e) (law.value x)

  pub fail_like : (A : Type 0) (code : ℕ) → P A (fail code) (fail code)
  fail_like A code = law.error A code

  pub answered_like : {A : Type 0} (r : Result A ℕ) → P A (answered r) (answered r)
  answered_like (Ok a) = law.value a
  answered_like {A = A} (Err code) = law.error A code

  pub needed_like : {A : Type 0} (code : ℕ) (o : Option A) → P A (needed code o) (needed code o)
  needed_like {A = A} code None = law.error A code
  needed_like code (Some a) = law.value a

  pub require_like : (code : ℕ) (holds : Bool) → P (Unit {0}) (require code holds) (require code holds)
  require_like code true = law.value tt
  require_like code false = law.error (Unit {0}) code

  pub if_like : {A : Type 0} (test : Bool) (m m' n n' : Action A) → P A m m' → P A n n' → P A (cond test m n) (cond test m' n')
  if_like true m m' n n' p q = p
  if_like false m m' n n' p q = q

  -- ---- lists

  pub each_like : {A B : Type 0} (Q : A → Type 0) (f f' : A → Action B) → ((a : A) → Q a → P B (f a) (f' a)) → (as' : List A) → AllByRecursion Q as' → P (List B) (each f as') (each f' as')
  each_like Q f f' like [] q = law.value []
  each_like Q f f' like (a ∷ as') q =
      law.bind (f a) (f' a) _ _ (like a q.0) (λ b. law.bind (each f as') (each f' as') _ _ (each_like Q f f' like as' q.1) (λ bs. law.value (b ∷ bs)))

  pub every_like : {A B : Type 0} (f f' : A → Action B) → ((a : A) → P B (f a) (f' a)) → (as' : List A) → P (List B) (each f as') (each f' as')
  every_like f f' like [] = law.value []
  every_like f f' like (a ∷ as') =
      law.bind (f a) (f' a) _ _ (like a) (λ b. law.bind (each f as') (each f' as') _ _ (every_like f f' like as') (λ bs. law.value (b ∷ bs)))

  pub kept_like : {A : Type 0} (f f' : A → Action Bool) → ((a : A) → P Bool (f a) (f' a)) → (as' : List A) → P (List A) (kept_by f as') (kept_by f' as')
  kept_like f f' like [] = law.value []
  kept_like f f' like (a ∷ as') =
      law.bind (f a) (f' a) _ _ (like a) (λ keeps. law.bind (kept_by f as') (kept_by f' as') _ _ (kept_like f f' like as') (λ rest. law.value (cond keeps (a ∷ rest) rest)))

  pub counted_like : {A : Type 0} (f f' : A → Action ℕ) → ((a : A) → P ℕ (f a) (f' a)) → (as' : List A) → P ℕ (counted f as') (counted f' as')
  counted_like f f' like [] = law.value 0
  counted_like f f' like (a ∷ as') =
      law.bind (f a) (f' a) _ _ (like a) (λ n. law.bind (counted f as') (counted f' as') _ _ (counted_like f f' like as') (λ m. law.value (n + m)))

  pub carried_like : {S A : Type 0} (Q : A → Type 0) (f f' : S → A → Action S) → ((s : S) (a : A) → Q a → P S (f s a) (f' s a)) → (s : S) (as' : List A) → AllByRecursion Q as' → P S (carried_on f s as') (carried_on f' s as')
  carried_like Q f f' like s [] q = law.value s
  carried_like Q f f' like s (a ∷ as') q = law.bind (f s a) (f' s a) _ _ (like s a q.0) (λ next. carried_like Q f f' like next as' q.1)

  pub carry_like : {S A : Type 0} (f f' : S → A → Action S) → ((s : S) (a : A) → P S (f s a) (f' s a)) → (s : S) (as' : List A) → P S (carried_on f s as') (carried_on f' s as')
  carry_like f f' like s [] = law.value s
  carry_like f f' like s (a ∷ as') = law.bind (f s a) (f' s a) _ _ (like s a) (λ next. carry_like f f' like next as')

  -- ---- what touches the scene

  pub make_like : changing → (code : ℕ) (change : Change) → P (Unit {0}) (make code change) (make code change)
  make_like may code change = law.change may code change

  pub table_like : (name : List ℕ) → P Table (table_now name) (table_now name)
  table_like name = law.table name

  pub raise_like : (name : List ℕ) (v : ℤ) → P (Unit {0}) (raise_counter name v) (raise_counter name v)
  raise_like name v = law.raised name v
