-- Where the code's bodies stand, as the definitions have it.
use Rattle.std.specs.Prelude.{◌≡◌, ℕ, List, [], ◌∷◌, Option, Some, None, Result}
use Rattle.std.specs.Option.{option_map}
use Rattle.val_types.specs.declared.value.Value.{Value}
use Rattle.val_types.specs.declared.refusal.SqlRefusal.{SqlRefusal}
use Rattle.sql_statements.specs.catalog_rules.Names.{place_among}
use Rattle.sql_statements.specs.catalog_rules.Objects.{columns_of}
use Rattle.sql_statements.specs.sql_meaning.Scenes.{Scene, Action, ◌>>=◌, needed}
use Rattle.sql_statements.specs.sql_meaning.Changing.{put_at}
use Rattle.sql_statements.specs.sql_meaning.Frames.{World, View}
use Rattle.sql_statements.specs.sql_meaning.Running.{Body, Ended}
use Rattle.exec_state.specs.Stage.{EndsAsBy}
use Rattle.exec_state.specs.declared.running.Running.{Running as UnderWay}
use Rattle.sql_evaluation.specs.declared.world.Around.{Around}
use Rattle.sql_evaluation.specs.declared.world.View.{View as Shown}
use Rattle.sql_evaluation.specs.Seen.{view_of, world_of, running_of}
use Rattle.stored_programs.specs.declared.body.Body.{Body as Stands}

-- a row that a body sees
abbrev pub view_in : Option Shown → Option View
view_in row = option_map view_of row

-- the locals of a body, and in a trigger NEW and OLD
abbrev pub body_of : Stands → Body
body_of b = record { locals = b.locals; new_row = view_in b.new_row; old_row = view_in b.old_row }

-- the same, whatever an answer without a value
abbrev pub body_then : Stands → Unit {0} → Body
body_then b done = body_of b

-- how a step ended that left a body so, with what it returned
abbrev pub ended_at : Body → Option Value → Ended
ended_at body returned = record { body = body; returned = returned }

-- what is round a step where that is under way
abbrev pub world_with : Around → UnderWay → World
world_with a running = record (world_of a) { running = running_of running }

-- an answer that is that of an action in any scene, which it leaves, as what it stands for
pub record AnywhereBy {A B : Type 0} (view : A → B) (r : Result A SqlRefusal) (m : Action B) : Type 0 where
  pub ends : (scene : Scene) → EndsAsBy view r scene (m scene)

-- the first of some values, and those behind it; None where there are none
abbrev pub ComesFirst : {A : Type 0} → Option A → List A → List A → Type 0
ComesFirst None old new = (old ≡ []) × (new ≡ [])
ComesFirst (Some v) old new = old ≡ v ∷ new

-- a row with a value put into the column of a name; 1054 where there is none
abbrev pub put_in_column : Shown → List ℕ → Value → Action (List Value)
put_in_column view c v = needed 1054 (place_among (columns_of view.definition) c) >>= λ place. put_at view.definition view.row (place, v)
