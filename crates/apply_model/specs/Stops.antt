-- Where an applier stops: what it reads and its tables differ.
use Rattle.std.specs.Prelude.{ℕ, List, []}
use Rattle.val_types.specs.declared.value.Value.{Value}

-- The place of the event in the log, the error's number, and the table and the primary key that it is about, empty where there is
-- none.
pub record Differs : Type 0 where
  pub place : ℕ
  pub code : ℕ
  pub table : List ℕ
  pub key : List Value

-- an error of a statement
abbrev pub stop_at : (place code : ℕ) → Differs
stop_at place code = record { place = place; code = code; table = []; key = [] }
