-- What the state of the code stands for, and what its calls answer.
use Rattle.std.specs.Prelude.{◌≡◌, ◌≤◌, ℕ, List, Result, Ok, Err, unwrap_or}
use Rattle.val_types.specs.declared.refusal.SqlRefusal.{SqlRefusal}
use Rattle.val_types.specs.declared.refusal.SqlRefusal.TheVariants.{Sql, NoMemory}
use Rattle.auto_inc.specs.declared.counters.Counter.{Counter}
use Rattle.auto_inc.specs.Counting.{value_for, tables_of}
use Rattle.table_rules.specs.Leads.{Leads}
use Rattle.sql_meaning.specs.Scenes.{Scene, Ending, done, failed}
use Rattle.exec_state.specs.declared.stage.Stage.{Stage}

-- the scene that the state stands for
unfoldable pub scene_of : Stage → Scene
scene_of s = record { tables = s.tables.tables; changes = s.undo; counters = s.counters; seeds = s.seeds; turns = s.turns; uuids = s.uuids }

-- no counter is lower than it was
abbrev pub NoneLower : List Counter → List Counter → Type 0
NoneLower old new = (table : List ℕ) → unwrap_or (value_for table old) 0 ≤ unwrap_or (value_for table new) 0

-- What holds between the state before and the one after, on every way out: the changes noted since lead from the old rows to
-- the new, taking them back leads to the old ones and needs no memory; counters are of the same tables, and none is lower; no
-- turn came back.
pub record Led (old new : Stage) : Type 0 where
  pub rows : Leads old.tables old.undo new.tables new.undo
  pub counters : NoneLower old.counters new.counters
  pub named : tables_of new.counters ≡ tables_of old.counters
  pub turns : new.turns ≤ old.turns

unfoldable pub LeadsOn : Stage → Stage → Type 0
LeadsOn old new = Led old new

-- an answer with the scene behind it is how an action ends: its value, or its error; or memory is short
abbrev pub EndsAsBy : {A B : Type 0} → (A → B) → Result A SqlRefusal → Scene → Ending B → Type 0
EndsAsBy view (Ok a) scene ending = ending ≡ done (view a) scene
EndsAsBy view (Err (Sql code)) scene ending = ending ≡ failed code scene
EndsAsBy view (Err NoMemory) scene ending = Unit {0}

abbrev pub EndsAs : {A : Type 0} → Result A SqlRefusal → Scene → Ending A → Type 0
EndsAs (Ok a) scene ending = ending ≡ done a scene
EndsAs (Err (Sql code)) scene ending = ending ≡ failed code scene
EndsAs (Err NoMemory) scene ending = Unit {0}
