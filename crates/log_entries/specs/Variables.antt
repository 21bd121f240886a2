-- User variables as a list of names with their values, none of a name twice.
use Rattle.std.specs.Prelude.{ℕ, nat_eq, List, unwrap_or}
use Rattle.std.specs.Cmp.Lexicographic.{pointwise}
use Rattle.std.specs.Map.{lookup}
use Rattle.indexmap.specs.IndexMap.{insert_entry}
use Rattle.val_types.specs.declared.value.Value.{Value}
use Rattle.val_types.specs.declared.value.Value.TheVariants.{Null}

-- the variables with one set: one that is there keeps its place, another one goes last
abbrev pub variable_set : List (List ℕ × Value) → List ℕ → Value → List (List ℕ × Value)
variable_set variables name value = insert_entry (pointwise nat_eq) variables name value

-- the value of a variable, NULL where it was never set
abbrev pub variable_value : List (List ℕ × Value) → List ℕ → Value
variable_value variables name = unwrap_or (lookup (pointwise nat_eq name) variables) Null
