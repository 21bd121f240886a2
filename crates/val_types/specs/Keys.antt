-- The keys of rows, and when two rows have one in common.
use Rattle.std.specs.Prelude.{ℕ, Bool, not, ◌&&◌, ◌||◌, List, map, slice_index_or}
use Rattle.std.specs.List.{list_any}
use Rattle.std.specs.Ordering.{is_eq}
use Rattle.val_types.specs.declared.value.Value.{Value}
use Rattle.val_types.specs.declared.value.Value.TheVariants.{Null}
use Rattle.val_types.specs.declared.definitions.KeyDef.{KeyDef}
use Rattle.val_types.specs.declared.definitions.TableDef.{TableDef}
use Rattle.val_types.specs.Order.{key_order}
use Rattle.val_types.specs.Fitting.{is_null}

-- the values of a row in some columns, counted from 0; NULL for a column that the row does not have
abbrev pub values_at : List ℕ → List Value → List Value
values_at columns row = map (λ column. slice_index_or row column Null) columns

-- the primary key of a row
abbrev pub primary_key : TableDef → List Value → List Value
primary_key definition row = values_at definition.primary row

-- whether two keys, or two rows, have the same values
abbrev pub same_values : List Value → List Value → Bool
same_values a b = is_eq (key_order a b)

-- whether two rows agree on a unique key; a key with a NULL part agrees with none
abbrev pub agree_on : List Value → List Value → KeyDef → Bool
agree_on a b key =
    not (list_any is_null (values_at key.columns a))
    && same_values (values_at key.columns a) (values_at key.columns b)

-- whether two rows have the same primary key or agree on a unique key, so that a table can hold only one of them
abbrev pub collide : TableDef → List Value → List Value → Bool
collide definition a b =
    same_values (primary_key definition a) (primary_key definition b)
    || list_any (agree_on a b) definition.uniques
