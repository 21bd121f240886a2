-- A row that stands just so, and another one or none in its place.
use Rattle.std.specs.Prelude.{Bool, false, ◌&&◌, List, Option, Some, None}
use Rattle.std.specs.List.{list_all}
use Rattle.std.specs.Option.{option_map_or}
use Rattle.val_types.specs.declared.value.Value.{Value}
use Rattle.val_types.specs.declared.definitions.TableDef.{TableDef}
use Rattle.val_types.specs.Keys.{values_at, primary_key, same_values}
use Rattle.table_rules.specs.Changes.{with_row}
use Rattle.table_rules.specs.Stored.{row_of_key}

-- whether just this row stands at its key
abbrev pub is_standing : TableDef → List Value → List (List Value) → Bool
is_standing definition row rows = option_map_or (λ standing. same_values standing row) (row_of_key definition (primary_key definition row) rows) false

-- whether two rows have the same primary key and the same values in the columns of each unique key
abbrev pub have_same_keys : TableDef → List Value → List Value → Bool
have_same_keys definition a b =
    same_values (primary_key definition a) (primary_key definition b)
    && list_all (λ key. same_values (values_at key.columns a) (values_at key.columns b)) definition.uniques

-- some rows, and one more among them if there is one
abbrev pub with_present : TableDef → Option (List Value) → List (List Value) → List (List Value)
with_present definition None rows = rows
with_present definition (Some row) rows = with_row definition row rows
