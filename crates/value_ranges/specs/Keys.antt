-- Ranges of the first value of a key, and of the rows of a table by their primary keys.
use Rattle.std.specs.Prelude.{Bool, List, slice_index_or}
use Rattle.val_types.specs.declared.value.Value.{Value}
use Rattle.val_types.specs.declared.value.Value.TheVariants.{Null}
use Rattle.val_types.specs.declared.definitions.TableDef.{TableDef}
use Rattle.val_types.specs.Keys.{primary_key}
use Rattle.value_ranges.specs.Ranges.{Range, is_from, is_to, is_in}

-- the first value of a key, NULL where it has none
abbrev pub first_of : List Value → Value
first_of key = slice_index_or key 0 Null

-- whether the first value of a row's primary key is not before a range, not behind it, and in it
abbrev pub row_is_from : TableDef → Range → List Value → Bool
row_is_from definition range row = is_from range.low (first_of (primary_key definition row))

abbrev pub row_is_to : TableDef → Range → List Value → Bool
row_is_to definition range row = is_to range.high (first_of (primary_key definition row))

abbrev pub row_is_in : TableDef → Range → List Value → Bool
row_is_in definition range row = is_in range (first_of (primary_key definition row))
