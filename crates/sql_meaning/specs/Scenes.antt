-- Scenes, and actions on them: what evaluating and changing makes of what can change.
--
-- An action gives a value and the scene after, or an error and the scene after: seeds, counters, turns and UUIDs that were
-- used stay used where an error comes.
use Rattle.std.specs.Prelude.{ℕ, zero, suc, ◌+◌, ◌%◌, ◌^◌, max, Bool, if◌then◌else◌, List, [], ◌∷◌, ◌++◌, Option, Some, None, Result, Ok, Err, ℤ, unwrap_or}
use Rattle.val_types.specs.declared.value.Value.{Value}
use Rattle.val_types.specs.declared.value.Value.TheVariants.{Text}
use Rattle.val_types.specs.declared.change.Change.{Change}
use Rattle.auto_inc.specs.declared.counters.Counter.{Counter}
use Rattle.auto_inc.specs.Counting.{value_for, changed_for, behind}
use Rattle.table_rules.specs.Tables.{Table}
use Rattle.table_rules.specs.Changes.{applied}
use Rattle.table_rules.specs.Stored.{table_named}
use Rattle.value_rules.specs.Identifiers.{uuid_text}
use Rattle.value_rules.specs.Random.{seeds_after}

-- What can change: the tables as they stand, the changes so far, the AUTO_INCREMENT counters, the seeds of RAND(), the turns
-- of WHILE that are left, and how many UUIDs were made.
pub record Scene : Type 0 where
  pub tables : List Table
  pub changes : List Change
  pub counters : List Counter
  pub seeds : ℕ × ℕ
  pub turns : ℕ
  pub uuids : ℕ

-- how an action ends: with a value, or with an error's number
pub data Ending (A : Type 0) : Type 0 where
  done : A → Scene → Ending A
  failed : ℕ → Scene → Ending A

abbrev pub Action : Type 0 → Type 0
Action A = Scene → Ending A

-- ---- actions one after the other

abbrev pub then_do : {A B : Type 0} → Ending A → (A → Action B) → Ending B
then_do (done a scene) next = next a scene
then_do (failed code scene) next = failed code scene

infixl 10 ◌>>=◌
abbrev pub ◌>>=◌ : {A B : Type 0} → Action A → (A → Action B) → Action B
(m >>= next) scene = then_do (m scene) next

abbrev pub pure : {A : Type 0} → A → Action A
pure a scene = done a scene

abbrev pub fail : {A : Type 0} → ℕ → Action A
fail code scene = failed code scene

-- a value that a rule gives, or its error
abbrev pub answered : {A : Type 0} → Result A ℕ → Action A
answered (Ok a) = pure a
answered (Err code) = fail code

-- what is there, or an error where it is not
abbrev pub needed : {A : Type 0} → ℕ → Option A → Action A
needed code None = fail code
needed code (Some a) = pure a

-- an error, unless something holds
abbrev pub require : ℕ → Bool → Action (Unit {0})
require code holds = if holds then pure tt else fail code

-- what an action gives for each item, in their order
abbrev pub each : {A B : Type 0} → (A → Action B) → List A → Action (List B)
each do_one [] = pure []
each do_one (a ∷ as') = do_one a >>= λ b. each do_one as' >>= λ bs. pure (b ∷ bs)

-- the items for which an action gives true
abbrev pub kept_by : {A : Type 0} → (A → Action Bool) → List A → Action (List A)
kept_by test [] = pure []
kept_by test (a ∷ as') = test a >>= λ keeps. kept_by test as' >>= λ rest. pure (if keeps then a ∷ rest else rest)

-- the sum of the counts that an action gives
abbrev pub counted : {A : Type 0} → (A → Action ℕ) → List A → Action ℕ
counted count [] = pure 0
counted count (a ∷ as') = count a >>= λ n. counted count as' >>= λ m. pure (n + m)

-- an action on each item that hands a state on
abbrev pub carried_on : {S A : Type 0} → (S → A → Action S) → S → List A → Action S
carried_on do_one state [] = pure state
carried_on do_one state (a ∷ as') = do_one state a >>= λ next. carried_on do_one next as'

-- ---- what touches the scene

-- the table of a name, as it stands
abbrev pub table_now : List ℕ → Action Table
table_now name scene = needed 1146 (table_named name scene.tables) scene

-- the tables after a change, and the change noted; where it cannot be made, the error given
abbrev pub noted : Change → Scene → List Table → Scene
noted change scene tables = record scene { tables = tables; changes = scene.changes ++ change ∷ [] }

abbrev pub make : ℕ → Change → Action (Unit {0})
make code change scene = elim (applied change scene.tables) [ None ↦ failed code scene | Some tables ↦ done tt (noted change scene tables) ]

-- the counter of a table
abbrev pub counter_now : List ℕ → Action ℕ
counter_now name scene = done (unwrap_or (value_for name scene.counters) 1) scene

-- a value of an AUTO_INCREMENT column moves its counter behind it, never back
abbrev pub raise_counter : List ℕ → ℤ → Action (Unit {0})
raise_counter name v scene = done tt (record scene { counters = changed_for name (λ n. max n (behind v)) scene.counters })

-- RAND() sets both seeds, and gives the first
abbrev pub draw : Action ℕ
draw scene = done (seeds_after scene.seeds.0 scene.seeds.1).0 (record scene { seeds = seeds_after scene.seeds.0 scene.seeds.1 })

-- UUID() counts on from the number that the command drew
abbrev pub next_uuid : ℕ → Action Value
next_uuid first scene = done (Text (uuid_text ((first + scene.uuids) % 2 ^ 128))) (record scene { uuids = scene.uuids + 1 })

-- a turn of WHILE; 30004 where none is left
abbrev pub turn_spent : ℕ → Action (Unit {0})
turn_spent zero = fail 30004
turn_spent (suc n) = λ scene. done tt (record scene { turns = n })

abbrev pub spend_turn : Action (Unit {0})
spend_turn scene = turn_spent scene.turns scene

-- an error leaves the tables and the changes as they were, and the rest as it left it
abbrev pub put_back : Scene → Scene → Scene
put_back before after = record after { tables = before.tables; changes = before.changes }

abbrev pub undone_from : {A : Type 0} → Scene → Ending A → Ending A
undone_from before (done a scene) = done a scene
undone_from before (failed code scene) = failed code (put_back before scene)

abbrev pub undone : {A : Type 0} → Action A → Action A
undone m scene = undone_from scene (m scene)
