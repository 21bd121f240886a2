-- What holds between the scene before an action and the one after it, from one action to those that it is made of.
use Rattle.std.proofs.Common.{◌≡◌, ◌≤◌, ℕ, zero, suc, List, [], ◌∷◌, ◌++◌, Bool, true, false, cond, Option, Some, None, Result, Ok, Err, ℤ, refl, sym, ap, ◌∙◌, append_assoc, append-nil}
use Rattle.std.proofs.Math.Nat.{le_refl, le_trans, le-suc}
use Rattle.std.specs.Option.{option_and_then}
use Rattle.val_types.specs.declared.change.Change.{Change}
use Rattle.table_rules.specs.Tables.{Table}
use Rattle.table_rules.specs.Changes.{applied}
use Rattle.table_rules.specs.Stored.{all_applied, table_named}
use Rattle.table_rules.proofs.Equations.{applied_none, applied_one, all_applied_behind}
use Rattle.sql_meaning.specs.Scenes.{Scene, Ending, done, failed, Action, then_do, ◌>>=◌, pure, fail, answered, needed, require, each, kept_by, counted, carried_on, noted, make, table_now, counter_now, raise_counter, draw, next_uuid, turn_spent, spend_turn, undone_from, undone}
use Rattle.sql_meaning.specs.Leading.{scene_after, Leads, StaysAsItWas, EndsWell}

-- ---- scenes that lead to one another

pub leads_on : (a b c : Scene) → Leads a b → Leads b c → Leads a c
leads_on a b c p q = record {
  more = p.more ++ q.more;
  added = q.added ∙ ap (λ cs. cs ++ q.more) p.added ∙ append_assoc a.changes p.more q.more;
  made = all_applied_behind p.more q.more a.tables ∙ ap (option_and_then (all_applied q.more)) p.made ∙ q.made;
}

-- the same tables and changes
pub leads_same : (a b : Scene) → b.tables ≡ a.tables → b.changes ≡ a.changes → Leads a b
leads_same a b tables changes = record { more = []; added = changes ∙ sym (append-nil a.changes); made = applied_none a.tables ∙ ap Some (sym tables) }

-- ---- what holds of actions, whether they end with a value or with an error

-- A relation that holds where tables and changes stay and no turn comes back, and from one to the next.
pub record IsMove (R : Scene → Scene → Type 0) : Type 0 where
  pub same : (a b : Scene) → b.tables ≡ a.tables → b.changes ≡ a.changes → b.turns ≤ a.turns → R a b
  pub on : (a b c : Scene) → R a b → R b c → R a c

pub record IsMoved (R : Scene → Scene → Type 0) {A : Type 0} (m : Action A) : Type 0 where
  pub moves : (scene : Scene) → R scene (scene_after (m scene))

-- changes lead on
pub leading : IsMove Leads
leading = record { same = λ a b tables changes turns. leads_same a b tables changes; on = leads_on }

abbrev pub IsLed : {A : Type 0} → Action A → Type 0
IsLed m = IsMoved Leads m

-- tables and changes stay
pub staying : IsMove StaysAsItWas
staying = record {
  same = λ a b tables changes turns. record { tables = tables; changes = changes };
  on = λ a b c p q. record { tables = q.tables ∙ p.tables; changes = q.changes ∙ p.changes };
}

-- turns are not given back
abbrev pub NoMoreTurns : Scene → Scene → Type 0
NoMoreTurns a b = b.turns ≤ a.turns

pub spending : IsMove NoMoreTurns
spending = record { same = λ a b tables changes turns. turns; on = λ a b c p q. le_trans q p }

module _ {R : Scene → Scene → Type 0} (law : IsMove R) where
  then_moved : {A B : Type 0} (f : A → Action B) (scene : Scene) (e : Ending A) → R scene (scene_after e) → ((a : A) → IsMoved R (f a)) → R scene (scene_after (then_do e f))
  then_moved f scene (done a after) p moved = law.on scene after (scene_after (f a after)) p ((moved a).moves after)
  then_moved f scene (failed code after) p moved = p

  pub bind_moved : {A B : Type 0} (m : Action A) (f : A → Action B) → IsMoved R m → ((a : A) → IsMoved R (f a)) → IsMoved R (m >>= f)
  bind_moved m f first rest = record { moves = λ scene. then_moved f scene (m scene) (first.moves scene) rest }

  pub pure_moved : {A : Type 0} (a : A) → IsMoved R (pure a)
  pure_moved a = record { moves = λ scene. law.same scene scene refl refl (le_refl scene.turns) }

  pub fail_moved : (A : Type 0) (code : ℕ) → IsMoved R (fail {A = A} code)
  fail_moved A code = record { moves = λ scene. law.same scene scene refl refl (le_refl scene.turns) }

  pub answered_moved : {A : Type 0} (r : Result A ℕ) → IsMoved R (answered r)
  answered_moved (Ok a) = pure_moved a
  answered_moved (Err code) = fail_moved _ code

  pub needed_moved : {A : Type 0} (code : ℕ) (o : Option A) → IsMoved R (needed code o)
  needed_moved code None = fail_moved _ code
  needed_moved code (Some a) = pure_moved a

  pub require_moved : (code : ℕ) (holds : Bool) → IsMoved R (require code holds)
  require_moved code true = pure_moved tt
  require_moved code false = fail_moved _ code

  pub if_moved : {A : Type 0} (test : Bool) (m n : Action A) → IsMoved R m → IsMoved R n → IsMoved R (cond test m n)
  if_moved true m n p q = p
  if_moved false m n p q = q

  -- ---- lists

  pub each_moved : {A B : Type 0} (f : A → Action B) → ((a : A) → IsMoved R (f a)) → (as' : List A) → IsMoved R (each f as')
  each_moved f moved [] = pure_moved []
  each_moved f moved (a ∷ as') = bind_moved (f a) _ (moved a) (λ b. bind_moved (each f as') _ (each_moved f moved as') (λ bs. pure_moved (b ∷ bs)))

  pub kept_moved : {A : Type 0} (f : A → Action Bool) → ((a : A) → IsMoved R (f a)) → (as' : List A) → IsMoved R (kept_by f as')
  kept_moved f moved [] = pure_moved []
  kept_moved f moved (a ∷ as') = bind_moved (f a) _ (moved a) (λ keeps. bind_moved (kept_by f as') _ (kept_moved f moved as') (λ rest. pure_moved (cond keeps (a ∷ rest) rest)))

  pub counted_moved : {A : Type 0} (f : A → Action ℕ) → ((a : A) → IsMoved R (f a)) → (as' : List A) → IsMoved R (counted f as')
  counted_moved f moved [] = pure_moved 0
  counted_moved f moved (a ∷ as') = bind_moved (f a) _ (moved a) (λ n. bind_moved (counted f as') _ (counted_moved f moved as') (λ m. pure_moved _))

  pub carried_moved : {S A : Type 0} (f : S → A → Action S) → ((s : S) (a : A) → IsMoved R (f s a)) → (s : S) (as' : List A) → IsMoved R (carried_on f s as')
  carried_moved f moved s [] = pure_moved s
  carried_moved f moved s (a ∷ as') = bind_moved (f s a) _ (moved s a) (λ next. carried_moved f moved next as')

  -- ---- what touches the scene

  pub table_moved : (name : List ℕ) → IsMoved R (table_now name)
  table_moved name = record { moves = λ scene. (needed_moved 1146 (table_named name scene.tables)).moves scene }

  pub counter_moved : (name : List ℕ) → IsMoved R (counter_now name)
  counter_moved name = record { moves = λ scene. law.same scene scene refl refl (le_refl scene.turns) }

  pub raise_moved : (name : List ℕ) (v : ℤ) → IsMoved R (raise_counter name v)
  raise_moved name v = record { moves = λ scene. law.same scene _ refl refl (le_refl scene.turns) }

  pub draw_moved : IsMoved R draw
  draw_moved = record { moves = λ scene. law.same scene _ refl refl (le_refl scene.turns) }

  pub uuid_moved : (first : ℕ) → IsMoved R (next_uuid first)
  uuid_moved first = record { moves = λ scene. law.same scene _ refl refl (le_refl scene.turns) }

  turn_moved : (n : ℕ) (scene : Scene) → scene.turns ≡ n → R scene (scene_after (turn_spent n scene))
  turn_moved zero scene e = (fail_moved (Unit {0}) 30004).moves scene
  turn_moved (suc n) scene e = law.same scene _ refl refl (rw e (le-suc n))

  pub spend_moved : IsMoved R spend_turn
  spend_moved = record { moves = λ scene. turn_moved scene.turns scene refl }

-- ---- changes

make_found : (code : ℕ) (change : Change) (scene : Scene) (o : Option (List Table)) → applied change scene.tables ≡ o
    → Leads scene (scene_after (elim o as (λ _. Ending (Unit {0})) [ None ↦ failed code scene | Some tables ↦ done tt (noted change scene tables) ]))
make_found code change scene None e = leads_same scene scene refl refl
make_found code change scene (Some tables) e = record { more = change ∷ []; added = refl; made = applied_one change scene.tables ∙ e }

pub make_led : (code : ℕ) (change : Change) → IsLed (make code change)
make_led code change = record { moves = λ scene. make_found code change scene (applied change scene.tables) refl }

-- A move that a change is, too, whether it can be made or not.
pub record IsWork (R : Scene → Scene → Type 0) : Type 0 where
  pub move : IsMove R
  pub made : (code : ℕ) (change : Change) → IsMoved R (make code change)

pub leading_work : IsWork Leads
leading_work = record { move = leading; made = make_led }

make_spends : (code : ℕ) (change : Change) (scene : Scene) (o : Option (List Table))
    → NoMoreTurns scene (scene_after (elim o as (λ _. Ending (Unit {0})) [ None ↦ failed code scene | Some tables ↦ done tt (noted change scene tables) ]))
make_spends code change scene None = le_refl scene.turns
make_spends code change scene (Some tables) = le_refl scene.turns

pub spending_work : IsWork NoMoreTurns
spending_work = record { move = spending; made = λ code change. record { moves = λ scene. make_spends code change scene (applied change scene.tables) } }

-- ---- an error takes back what was done

ends_well : {A : Type 0} (before : Scene) (e : Ending A) → Leads before (scene_after e) → EndsWell before (undone_from before e)
ends_well before (done a scene) p = p
ends_well before (failed code scene) p = record { tables = refl; changes = refl }

pub undone_ends_well : {A : Type 0} (m : Action A) → IsLed m → (scene : Scene) → EndsWell scene (undone m scene)
undone_ends_well m led scene = ends_well scene (m scene) (led.moves scene)
