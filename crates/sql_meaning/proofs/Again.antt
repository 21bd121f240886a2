-- Actions that are done again on a scene with more turns.
use Rattle.std.proofs.Common.{◌≡◌, ℕ, zero, suc, ◌+◌, List, [], ◌∷◌, ◌++◌, Bool, true, false, cond, Option, Some, None, Result, Ok, Err, ℤ, refl, sym, ap, subst, arith}
use Rattle.val_types.specs.declared.change.Change.{Change}
use Rattle.auto_inc.specs.declared.counters.Counter.{Counter}
use Rattle.table_rules.specs.Tables.{Table}
use Rattle.table_rules.specs.Changes.{applied}
use Rattle.table_rules.specs.Stored.{table_named}
use Rattle.sql_meaning.specs.Scenes.{Scene, Ending, done, failed, Action, then_do, ◌>>=◌, pure, fail, answered, needed, require, each, kept_by, counted, carried_on, noted, make, table_now, counter_now, raise_counter, draw, next_uuid, turn_spent, spend_turn, undone_from, undone}
use Rattle.sql_meaning.specs.Fuel.{HasMore, DoneAgain}

-- a scene of its parts
abbrev pub scene : List Table → List Change → List Counter → ℕ × ℕ → ℕ → ℕ → Scene
scene tables changes counters seeds turns uuids =
    record { tables = tables; changes = changes; counters = counters; seeds = seeds; turns = turns; uuids = uuids }

-- a scene is the other one with its own turns
same_scene : (extra : ℕ) (a b : Scene) → HasMore extra a b → scene a.tables a.changes a.counters a.seeds (a.turns + extra) a.uuids ≡ b
same_scene extra a b h = λ i. scene (sym h.tables i) (sym h.changes i) (sym h.counters i) (sym h.seeds i) (sym h.turns i) (sym h.uuids i)

module _ (extra : ℕ) where
  -- an action is done again by another one
  pub record Again {A : Type 0} (m m' : Action A) : Type 0 where
    pub again : (a b : Scene) → HasMore extra a b → DoneAgain extra (m a) (m' b)

  -- it is enough to look at two scenes that differ in their turns
  again_from : {A : Type 0} (m m' : Action A)
      → ((tables : List Table) (changes : List Change) (counters : List Counter) (seeds : ℕ × ℕ) (turns uuids : ℕ)
      → DoneAgain extra (m (scene tables changes counters seeds turns uuids)) (m' (scene tables changes counters seeds (turns + extra) uuids)))
      → Again m m'
  again_from m m' same = record {
    again = λ a b h. subst (λ x. DoneAgain extra (m a) (m' x)) (same_scene extra a b h) (same a.tables a.changes a.counters a.seeds a.turns a.uuids);
  }

  more_turns : (a b : Scene) → b.tables ≡ a.tables → b.changes ≡ a.changes → b.counters ≡ a.counters → b.seeds ≡ a.seeds → b.uuids ≡ a.uuids → b.turns ≡ a.turns + extra → HasMore extra a b
  more_turns a b tables changes counters seeds uuids turns =
      record { tables = tables; changes = changes; counters = counters; seeds = seeds; uuids = uuids; turns = turns }

  then_again : {A B : Type 0} (f f' : A → Action B) (o p : Ending A) → DoneAgain extra o p → ((x : A) → Again (f x) (f' x)) → DoneAgain extra (then_do o f) (then_do p f')
  then_again f f' (done x a) (done y b) h again = rw (sym h.0) ((again x).again a b h.1)
  then_again f f' (failed c a) p h again = tt
  then_again f f' (done x a) (failed d b) h again = absurd h

  pub bind_again : {A B : Type 0} (m m' : Action A) (f f' : A → Action B) → Again m m' → ((x : A) → Again (f x) (f' x)) → Again (m >>= f) (m' >>= f')
  bind_again m m' f f' first rest = record { again = λ a b h. then_again f f' (m a) (m' b) (first.again a b h) rest }

  pub pure_again : {A : Type 0} (x : A) → Again (pure x) (pure x)
  pure_again x = record { again = λ a b h. (refl, h) }

  pub fail_again : (A : Type 0) (code : ℕ) (m : Action A) → Again (fail {A = A} code) m
  fail_again A code m = record { again = λ a b h. tt }

  pub answered_again : {A : Type 0} (r : Result A ℕ) → Again (answered r) (answered r)
  answered_again (Ok a) = pure_again a
  answered_again (Err code) = fail_again _ code (fail code)

  pub needed_again : {A : Type 0} (code : ℕ) (o : Option A) → Again (needed code o) (needed code o)
  needed_again code None = fail_again _ code (fail code)
  needed_again code (Some a) = pure_again a

  pub require_again : (code : ℕ) (holds : Bool) → Again (require code holds) (require code holds)
  require_again code true = pure_again tt
  require_again code false = fail_again _ code (fail code)

  pub if_again : {A : Type 0} (test : Bool) (m m' n n' : Action A) → Again m m' → Again n n' → Again (cond test m n) (cond test m' n')
  if_again true m m' n n' p q = p
  if_again false m m' n n' p q = q

  -- ---- lists

  pub each_again : {A B : Type 0} (f f' : A → Action B) → ((a : A) → Again (f a) (f' a)) → (as' : List A) → Again (each f as') (each f' as')
  each_again f f' again [] = pure_again []
  each_again f f' again (a ∷ as') =
      bind_again (f a) (f' a) _ _ (again a) (λ b. bind_again (each f as') (each f' as') _ _ (each_again f f' again as') (λ bs. pure_again (b ∷ bs)))

  pub kept_again : {A : Type 0} (f f' : A → Action Bool) → ((a : A) → Again (f a) (f' a)) → (as' : List A) → Again (kept_by f as') (kept_by f' as')
  kept_again f f' again [] = pure_again []
  kept_again f f' again (a ∷ as') =
      bind_again (f a) (f' a) _ _ (again a) (λ keeps. bind_again (kept_by f as') (kept_by f' as') _ _ (kept_again f f' again as') (λ rest. pure_again (cond keeps (a ∷ rest) rest)))

  pub counted_again : {A : Type 0} (f f' : A → Action ℕ) → ((a : A) → Again (f a) (f' a)) → (as' : List A) → Again (counted f as') (counted f' as')
  counted_again f f' again [] = pure_again 0
  counted_again f f' again (a ∷ as') =
      bind_again (f a) (f' a) _ _ (again a) (λ n. bind_again (counted f as') (counted f' as') _ _ (counted_again f f' again as') (λ m. pure_again (n + m)))

  pub carried_again : {S A : Type 0} (f f' : S → A → Action S) → ((s : S) (a : A) → Again (f s a) (f' s a)) → (s : S) (as' : List A) → Again (carried_on f s as') (carried_on f' s as')
  carried_again f f' again s [] = pure_again s
  carried_again f f' again s (a ∷ as') = bind_again (f s a) (f' s a) _ _ (again s a) (λ next. carried_again f f' again next as')

  -- ---- what touches the scene

  make_found : (code : ℕ) (change : Change) (a b : Scene) → HasMore extra a b → (o : Option (List Table))
      → DoneAgain extra
      (elim o as (λ _. Ending (Unit {0})) [ None ↦ failed code a | Some tables ↦ done tt (noted change a tables) ])
      (elim o as (λ _. Ending (Unit {0})) [ None ↦ failed code b | Some tables ↦ done tt (noted change b tables) ])
  make_found code change a b h None = tt
  make_found code change a b h (Some tables) =
      (refl, more_turns _ _ refl (ap (λ (cs : List Change). cs ++ change ∷ []) h.changes) h.counters h.seeds h.uuids h.turns)

  pub make_again : (code : ℕ) (change : Change) → Again (make code change) (make code change)
  make_again code change = again_from (make code change) (make code change) (λ tables changes counters seeds turns uuids.
      make_found code change (scene tables changes counters seeds turns uuids) (scene tables changes counters seeds (turns + extra) uuids)
      (more_turns _ _ refl refl refl refl refl refl) (applied change tables))

  pub table_again : (name : List ℕ) → Again (table_now name) (table_now name)
  table_again name = again_from (table_now name) (table_now name) (λ tables changes counters seeds turns uuids.
      (needed_again 1146 (table_named name tables)).again (scene tables changes counters seeds turns uuids) (scene tables changes counters seeds (turns + extra) uuids)
      (more_turns _ _ refl refl refl refl refl refl))

  pub counter_again : (name : List ℕ) → Again (counter_now name) (counter_now name)
  counter_again name = again_from (counter_now name) (counter_now name) (λ tables changes counters seeds turns uuids. (refl, more_turns _ _ refl refl refl refl refl refl))

  pub raise_again : (name : List ℕ) (v : ℤ) → Again (raise_counter name v) (raise_counter name v)
  raise_again name v = again_from (raise_counter name v) (raise_counter name v) (λ tables changes counters seeds turns uuids. (refl, more_turns _ _ refl refl refl refl refl refl))

  pub draw_again : Again draw draw
  draw_again = again_from draw draw (λ tables changes counters seeds turns uuids. (refl, more_turns _ _ refl refl refl refl refl refl))

  pub uuid_again : (first : ℕ) → Again (next_uuid first) (next_uuid first)
  uuid_again first = again_from (next_uuid first) (next_uuid first) (λ tables changes counters seeds turns uuids. (refl, more_turns _ _ refl refl refl refl refl refl))

  spent : (turns more : ℕ) (a b : Scene) → HasMore extra a b → more ≡ turns + extra → a.turns ≡ turns → DoneAgain extra (turn_spent turns a) (turn_spent more b)
  spent zero more a b h e t = tt
  spent (suc n) zero a b h e t = absurd (omega (arith, e))
  spent (suc n) (suc m) a b h e t = (refl, more_turns _ _ h.tables h.changes h.counters h.seeds h.uuids (omega (arith, e)))

  pub spend_again : Again spend_turn spend_turn
  spend_again = record { again = λ a b h. spent a.turns b.turns a b h h.turns refl }

  -- ---- an error takes back what was done, and is not done again

  undone_again_from : {A : Type 0} (a b : Scene) (o p : Ending A) → DoneAgain extra o p → DoneAgain extra (undone_from a o) (undone_from b p)
  undone_again_from a b (done x c) (done y d) h = h
  undone_again_from a b (failed code c) (done y d) h = tt
  undone_again_from a b (failed code c) (failed code' d) h = tt
  undone_again_from a b (done x c) (failed code' d) h = h

  pub undone_again : {A : Type 0} (m m' : Action A) → Again m m' → Again (undone m) (undone m')
  undone_again m m' first = record { again = λ a b h. undone_again_from a b (m a) (m' b) (first.again a b h) }
