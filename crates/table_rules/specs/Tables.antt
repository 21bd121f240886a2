-- Tables as their definitions with lists of rows, and what holds of the rows of each.
use Rattle.std.specs.Prelude.{Bool, true, not, ◌&&◌, List, [], ◌∷◌, IsTrue}
use Rattle.std.specs.List.{list_all}
use Rattle.std.specs.Ordering.{is_lt}
use Rattle.val_types.specs.declared.value.Value.{Value}
use Rattle.val_types.specs.declared.definitions.TableDef.{TableDef}
use Rattle.val_types.specs.Order.{key_order}
use Rattle.val_types.specs.Fitting.{row_fits}
use Rattle.val_types.specs.Keys.{primary_key, collide}

-- a table: its definition, and its rows in the order of their keys
pub record Table : Type 0 where
  pub definition : TableDef
  pub rows : List (List Value)

-- whether the primary key of a row is below that of another
abbrev pub is_below : TableDef → List Value → List Value → Bool
is_below definition a b = is_lt (key_order (primary_key definition a) (primary_key definition b))

-- whether the rows rise strictly by their primary keys: each is below all rows behind it
abbrev pub rise : TableDef → List (List Value) → Bool
rise definition [] = true
rise definition (row ∷ rows) = list_all (is_below definition row) rows && rise definition rows

-- whether no row has a key in common with a row behind it
abbrev pub are_apart : TableDef → List (List Value) → Bool
are_apart definition [] = true
are_apart definition (row ∷ rows) = list_all (λ later. not (collide definition row later)) rows && are_apart definition rows

-- what holds of the rows of each table: each fits, they rise by key, and no two have a key in common
pub record IsKept (table : Table) : Type 0 where
  pub fit : IsTrue (list_all (row_fits table.definition.columns) table.rows)
  pub rising : IsTrue (rise table.definition table.rows)
  pub apart : IsTrue (are_apart table.definition table.rows)
