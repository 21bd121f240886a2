-- A row of a table, and whether it is there.
use Rattle.std.specs.Prelude.{◌≡◌, ℕ, Bool, false, List, Option, Some, None}
use Rattle.val_types.specs.declared.value.Value.{Value}
use Rattle.val_types.specs.declared.change.Change.TheVariants.{Update, Delete}
use Rattle.val_types.specs.declared.definitions.TableDef.{TableDef}
use Rattle.val_types.specs.Keys.{same_values}
use Rattle.table_rules.specs.Tables.{Table}
use Rattle.table_rules.specs.Changes.{applied}

abbrev pub definition_of : Table → TableDef
definition_of t = t.definition

-- whether what was found has just these values
abbrev pub is_row : Option (List Value) → List Value → Bool
is_row None row = false
is_row (Some found) row = same_values row found

-- no change can take the row out
pub record IsNowhere (name : List ℕ) (row : List Value) (tables : List Table) : Type 0 where
  pub deletes : applied (Delete name row) tables ≡ None
  pub replaces : (after : List Value) → applied (Update name row after) tables ≡ None
