-- The events of a statement's text, part by part.
use Rattle.std.specs.Prelude.{ℕ, List, [], ◌∷◌, ◌++◌, map, Option, Some, None}
use Rattle.std.specs.Option.{option_map}
use Rattle.std.specs.Int.{w64, cast_unsigned}
use Rattle.val_types.specs.declared.value.Value.{Value}
use Rattle.event_codec.specs.declared.event.IntVarKind.TheVariants.{LastInsertId, InsertId}
use Rattle.event_codec.specs.Event.{Body, int_var, rand, user_var}
use Rattle.row_events.specs.log_entries.declared.carried.Carried.{Carried}

-- the event of what is there
abbrev pub if_some : {X : Type 0} → (X → Body) → Option X → List Body
if_some f None = []
if_some f (Some x) = f x ∷ []

-- LAST_INSERT_ID() before a statement, the first value that it generated, the seeds of RAND() before it
abbrev pub numbers : Carried → List Body
numbers c =
    if_some (int_var LastInsertId) (option_map (cast_unsigned w64) c.last_id)
    ++ (if_some (int_var InsertId) (option_map (cast_unsigned w64) c.first) ++ if_some (λ s. rand s.0 s.1) c.seeds)

-- user variables
abbrev pub variables : List (List ℕ × Value) → List Body
variables vs = map (λ v. user_var v.0 v.1) vs
