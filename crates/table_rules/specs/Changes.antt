-- What a change makes of the rows of a table, and of a list of tables.
use Rattle.std.specs.Prelude.{◌≡◌, Bool, not, ◌&&◌, nat_eq, if◌then◌else◌, List, [], ◌∷◌, Option, Some, None}
use Rattle.std.specs.List.{list_any, AllByRecursion}
use Rattle.std.specs.Option.{option_map, option_and_then}
use Rattle.std.specs.Cmp.Lexicographic.{pointwise}
use Rattle.val_types.specs.declared.value.Value.{Value}
use Rattle.val_types.specs.declared.change.Change.{Change}
use Rattle.val_types.specs.declared.change.Change.TheVariants.{Insert, Update, Delete}
use Rattle.val_types.specs.Changes.{inverse, table_of}
use Rattle.val_types.specs.declared.definitions.TableDef.{TableDef}
use Rattle.val_types.specs.Fitting.{row_fits}
use Rattle.val_types.specs.Keys.{same_values, collide}
use Rattle.table_rules.specs.Tables.{Table, IsKept, is_below}

-- the rows without one that has just these values, None where there is none
abbrev pub without : List Value → List (List Value) → Option (List (List Value))
without row [] = None
without row (first ∷ rows) =
    if same_values row first then Some rows
    else option_map (λ rest. first ∷ rest) (without row rows)

-- the rows with one more, before the first whose key is above its own
abbrev pub with_row : TableDef → List Value → List (List Value) → List (List Value)
with_row definition row [] = row ∷ []
with_row definition row (first ∷ rows) =
    if is_below definition row first then row ∷ first ∷ rows
    else first ∷ with_row definition row rows

-- whether a row may be put beside others: it fits, and none of its keys is that of another
abbrev pub may_put : TableDef → List Value → List (List Value) → Bool
may_put definition row rows =
    row_fits definition.columns row && not (list_any (collide definition row) rows)

-- the rows with one put in, None where it may not be put
abbrev pub put : TableDef → List Value → List (List Value) → Option (List (List Value))
put definition row rows =
    if may_put definition row rows then Some (with_row definition row rows) else None

-- the rows of a table after a change; an update takes the old row out and puts the new one in
abbrev pub rows_after : TableDef → Change → List (List Value) → Option (List (List Value))
rows_after definition (Insert name row) rows = put definition row rows
rows_after definition (Update name before after) rows = option_and_then (put definition after) (without before rows)
rows_after definition (Delete name row) rows = without row rows

-- a table after a change of its rows
abbrev pub table_after : Change → Table → Option Table
table_after change table =
    option_map (λ rows. record { definition = table.definition; rows = rows }) (rows_after table.definition change table.rows)

-- the tables after a change, None where it cannot be made
abbrev pub applied : Change → List Table → Option (List Table)
applied change [] = None
applied change (table ∷ tables) =
    if pointwise nat_eq (table_of change) table.definition.name
    then option_map (λ changed. changed ∷ tables) (table_after change table)
    else option_map (λ rest. table ∷ rest) (applied change tables)

-- all tables hold what tables have to hold
abbrev pub AreKept : List Table → Type 0
AreKept tables = AllByRecursion IsKept tables

-- a change that can be made leaves tables that hold what they have to, and its inverse takes it back
abbrev pub ChangesTurnBack : Type 0
ChangesTurnBack =
    (change : Change) (tables after : List Table) → AreKept tables → applied change tables ≡ Some after
    → (applied (inverse change) after ≡ Some tables) × AreKept after
